use Rattle.proof_options.proofs.FirstBad.{checks_refused, checks_out}
use Rattle.proof_options.proofs.checking.check_as.Goals as goal

pub returns-in_err-seen : goal.returns-in_err-seen
returns-in_err-seen c =
    checks_refused c.args.suite c.args.options.now c.from_residual.result c.in_err-seen.field-0.0 c.from_residual.ensures.1 c.in_err-seen.ensures

pub returns-in_err-tree : goal.returns-in_err-tree
returns-in_err-tree c = checks_out c.args.suite c.args.options.now c.from_residual-in_err-tree.result c.from_residual-in_err-tree.ensures.1

pub returns : goal.returns
returns c =
    let has = c.in_ok-seen.ensures in
    (has.shape, record { tree = c.in_ok-tree.ensures; method = has.method; expires = has.expires })
