use Rattle.std.proofs.Common.{◌≡◌, rules}
use Rattle.rdfc_ndegree.proofs.NextSequence.{sorted-arrangements}
use Rattle.rdfc_ndegree.proofs.arrangements.Arrangements.new.Goals as goal

pub returns : goal.returns
returns c =
    let same : c.in_ok-next.next.items ≡ c.args.members.now = search rules in
    sorted-arrangements c.args.members.now c.in_ok-next.next.items c.sort_unstable.new.self.items same c.sort_unstable.ensures.permutation c.sort_unstable.ensures.sorted
