use Rattle.rdfc_ndegree.proofs.Pivots.{stepped}
use Rattle.rdfc_ndegree.proofs.arrangements.advance.Goals as goal

pub returns : goal.returns
returns c =
    let pivot = c.in-Some.ensures in
    let above = c.last_above-above.ensures in
    stepped c.args.numbers.now c.swap.new.self c.reverse.new.self c.in-Some.pivot c.last_above-above.result pivot.0 pivot.2 above.0 above.1 above.2 above.3 c.swap.ensures.after c.reverse.ensures.after
