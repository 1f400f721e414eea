use Rattle.std.proofs.Common.{◌∙◌, Err, sym, ap}
use Rattle.ld_rdf.specs.declared.fault.FlatFault.{FlatFault}
use Rattle.ld_rdf.specs.declared.fault.FlatFault.TheVariants.{NotBuilt}
use Rattle.vc_session.proofs.Parting.{no_parts, no_table, no_body, no_proof_options, passed, task_from}
use Rattle.vc_session.proofs.requests.verify_task.Goals as goal

pub returns-in_err-keys-clause-not_built : goal.returns-in_err-keys-clause-not_built
returns-in_err-keys-clause-not_built c is f =
    let m = c.in-Some.members in
    let same = passed c.from_residual.result c.in_err-keys.field-0.0 NotBuilt c.from_residual.ensures.1 is in
    no_table c.args.request.now m.contexts.now m.document.now m.keys.now (sym c.in-Some.ensures.three)
    (c.in_err-keys.ensures.not_built (ap (λ (x : FlatFault). Err x) same)) f

pub returns-in_err-quads-clause-not_built : goal.returns-in_err-quads-clause-not_built
returns-in_err-quads-clause-not_built c is f =
    let m = c.in-Some.members in
    let same = passed c.from_residual-in_err-quads.result c.in_err-quads.field-0.0 NotBuilt c.from_residual-in_err-quads.ensures.1 is in
    no_body c.args.request.now m.contexts.now m.document.now m.keys.now (sym c.in-Some.ensures.three)
    (c.in_err-quads.ensures.not_built (ap (λ (x : FlatFault). Err x) same)) f

pub returns-in_err-option_quads-clause-not_built : goal.returns-in_err-option_quads-clause-not_built
returns-in_err-option_quads-clause-not_built c is f =
    let m = c.in-Some.members in
    let p = c.in-Some-proof_parts.parts in
    let same = passed c.from_residual-in_err-option_quads.result c.in_err-option_quads.field-0.0 NotBuilt c.from_residual-in_err-option_quads.ensures.1 is in
    no_proof_options c.args.request.now m.contexts.now m.document.now m.keys.now (sym c.in-Some.ensures.three)
    p.proof.now p.name.now p.method.now p.value.now (sym c.in-Some-proof_parts.ensures.parts)
    (c.in_err-option_quads.ensures.not_built (ap (λ (x : FlatFault). Err x) same)) f

pub returns-clause-ok : goal.returns-clause-ok
returns-clause-ok c =
    let m = c.in-Some.members in
    let p = c.in-Some-proof_parts.parts in
    let q = c.in_ok-quads.ensures.ok in
    let u = c.in_ok-option_quads.ensures.ok in
    task_from c.args.request.now m.contexts.now m.document.now m.keys.now (sym c.in-Some.ensures.three)
    _ p.proof.now p.name.now p.method.now p.value.now q.1.0 u.1.0 (sym c.in-Some-proof_parts.ensures.parts)
    c.in_ok-keys.ensures.ok q.0 q.1.1 q.1.2 c.in_ok-quads.ensures.statements u.0 u.1.1 u.1.2 c.in_ok-option_quads.ensures.statements
    (c.in_ok-method.ensures ∙ c.as_str.ensures) (c.in_ok-value.ensures ∙ c.as_str-2.ensures)

pub returns-in_default-proof_parts-clause-not_built : goal.returns-in_default-proof_parts-clause-not_built
returns-in_default-proof_parts-clause-not_built c is f =
    let m = c.in-Some.members in
    no_parts c.args.request.now m.contexts.now m.document.now m.keys.now (sym c.in-Some.ensures.three) (sym c.in_default-proof_parts.ensures.parts) f
