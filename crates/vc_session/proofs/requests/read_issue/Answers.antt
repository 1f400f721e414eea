use Rattle.std.proofs.Common.{◌∙◌, Err, refl, sym, ap}
use Rattle.ld_rdf.specs.declared.fault.FlatFault.{FlatFault}
use Rattle.ld_rdf.specs.declared.fault.FlatFault.TheVariants.{NotBuilt}
use Rattle.vc_session.proofs.Parting.{no_keys, no_document, no_options, passed, read_from}
use Rattle.vc_session.proofs.requests.read_issue.Goals as goal

pub returns-in_err-keys-clause-not_built : goal.returns-in_err-keys-clause-not_built
returns-in_err-keys-clause-not_built c is f =
    let m = c.in-Some.members in
    let same = passed c.from_residual.result c.in_err-keys.field-0.0 NotBuilt c.from_residual.ensures.1 is in
    no_keys c.args.request.now m.contexts.now m.document.now m.keys.now m.mandatory.now m.options.now (sym c.in-Some.ensures.five)
    (c.in_err-keys.ensures.not_built (ap (λ (x : FlatFault). Err x) same)) f

pub returns-in_err-quads-clause-not_built : goal.returns-in_err-quads-clause-not_built
returns-in_err-quads-clause-not_built c is f =
    let m = c.in-Some.members in
    let same = passed c.from_residual-in_err-quads.result c.in_err-quads.field-0.0 NotBuilt c.from_residual-in_err-quads.ensures.1 is in
    no_document c.args.request.now m.contexts.now m.document.now m.keys.now m.mandatory.now m.options.now (sym c.in-Some.ensures.five)
    (c.in_err-quads.ensures.not_built (ap (λ (x : FlatFault). Err x) same)) f

pub returns-in_err-option_quads-clause-not_built : goal.returns-in_err-option_quads-clause-not_built
returns-in_err-option_quads-clause-not_built c is f =
    let m = c.in-Some.members in
    let n = c.in-Some-issue_names in
    let same = passed c.from_residual-in_err-option_quads.result c.in_err-option_quads.field-0.0 NotBuilt c.from_residual-in_err-option_quads.ensures.1 is in
    no_options c.args.request.now m.contexts.now m.document.now m.keys.now m.mandatory.now m.options.now (sym c.in-Some.ensures.five)
    n.name.now n.method.now (sym n.ensures)
    (c.in_err-option_quads.ensures.not_built (ap (λ (x : FlatFault). Err x) same)) f

pub returns-clause-ok : goal.returns-clause-ok
returns-clause-ok c =
    let m = c.in-Some.members in
    let n = c.in-Some-issue_names in
    let q = c.in_ok-quads.ensures.ok in
    let u = c.in_ok-option_quads.ensures.ok in
    read_from c.args.request.now m.contexts.now m.document.now m.keys.now m.mandatory.now m.options.now (sym c.in-Some.ensures.five)
    _ n.name.now n.method.now q.1.0 u.1.0 (c.if-not-is_whole_document.ensures.0 refl) (sym n.ensures)
    c.in_ok-keys.ensures.ok q.0 q.1.1 q.1.2 c.in_ok-quads.ensures.statements u.0 u.1.1 u.1.2 c.in_ok-option_quads.ensures.statements
    (c.in_ok-method.ensures ∙ c.as_str.ensures)
