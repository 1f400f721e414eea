use Rattle.std.proofs.Common.{codes, sym, subst}
use Rattle.json_tree.specs.WellFormed.{IsWellFormed}
use Rattle.proof_options.proofs.FirstBad.{splits_absent, splits_refused, splits_memory}
use Rattle.proof_options.proofs.Splitting.{lawful_without, splits_out, is_split}
use Rattle.proof_options.proofs.checking.split_as.Goals as goal

pub returns-in_default-clause-outcome : goal.returns-in_default-clause-outcome
returns-in_default-clause-outcome c = splits_absent c.args.suite c.args.document.now (sym c.in_default.ensures.value)

pub returns-in_err-seen-clause-outcome : goal.returns-in_err-seen-clause-outcome
returns-in_err-seen-clause-outcome c =
    splits_refused c.args.suite c.args.document.now c.in-Some.proof.now c.from_residual.result c.in_err-seen.field-0.0 (sym c.in-Some.ensures.value) c.from_residual.ensures.1 c.in_err-seen.ensures

pub returns-in_err-value-clause-outcome : goal.returns-in_err-value-clause-outcome
returns-in_err-value-clause-outcome c =
    splits_memory c.args.suite c.args.document.now c.in-Some.proof.now c.from_residual-in_err-value.result c.in_err-value.field-0.0 c.from_residual-in_err-value.ensures.1 c.in_ok-seen.ensures.shape c.in_err-value.ensures.judged

pub returns-in_err-proof_copy-clause-outcome : goal.returns-in_err-proof_copy-clause-outcome
returns-in_err-proof_copy-clause-outcome c = splits_out c.args.suite c.args.document.now c.from_residual-in_err-proof_copy.result c.from_residual-in_err-proof_copy.ensures.1

pub returns-in_err-document_copy-clause-outcome : goal.returns-in_err-document_copy-clause-outcome
returns-in_err-document_copy-clause-outcome c = splits_out c.args.suite c.args.document.now c.from_residual-in_err-document_copy.result c.from_residual-in_err-document_copy.ensures.1

pub returns-clause-outcome : goal.returns-clause-outcome
returns-clause-outcome c =
    is_split c.args.suite c.args.document.now c.in-Some.proof.now c.in_ok-proof_copy.proof_copy c.in_ok-document_copy.document_copy c.without-tree.result c.without-body.result c.in_ok-seen.seen c.in_ok-value.value c.in-Some.ensures.value c.in_ok-seen.ensures c.in_ok-value.ensures.text c.in_ok-proof_copy.ensures c.without-tree.ensures.value c.in_ok-document_copy.ensures c.without-body.ensures.value

pub returns-clause-body : goal.returns-clause-body
returns-clause-body c = lawful_without (codes "proof") c.args.document.now c.in_ok-document_copy.document_copy c.without-body.result c.requires c.in_ok-document_copy.ensures c.without-body.ensures.value

pub returns-clause-options : goal.returns-clause-options
returns-clause-options c = lawful_without (codes "proofValue") c.in-Some.proof.now c.in_ok-proof_copy.proof_copy c.without-tree.result c.in-Some.ensures.lawful c.in_ok-proof_copy.ensures c.without-tree.ensures.value

pub returns-clause-well_formed_body : goal.returns-clause-well_formed_body
returns-clause-well_formed_body c = λ w. c.without-body.ensures.well_formed (subst IsWellFormed (sym c.in_ok-document_copy.ensures) w)

pub returns-clause-well_formed_options : goal.returns-clause-well_formed_options
returns-clause-well_formed_options c = λ w. c.without-tree.ensures.well_formed (subst IsWellFormed (sym c.in_ok-proof_copy.ensures) (c.in-Some.ensures.well_formed w))
