use Rattle.std.proofs.Common.{◌≡◌, min, arith, rules}
use Rattle.rdfc_ndegree.proofs.Places.{first-shorter}
use Rattle.rdfc_ndegree.proofs.temporary.Temporary.cut_back.Goals as goal

pub invariant_of-self : goal.invariant_of-self
invariant_of-self c =
    let least : c.min-self-inside.result ≡ min c.self.inside.count c.args.count = search rules in
    omega (arith, least, c.self.invariant)

pub returns : goal.returns
returns c =
    let least : c.min-self-inside.result ≡ min c.self.inside.count c.args.count = search rules in
    first-shorter c.self.inside.order c.args.self.now c.self.inside.count c.args.count c.min-self-inside.result c.self.view_is least
