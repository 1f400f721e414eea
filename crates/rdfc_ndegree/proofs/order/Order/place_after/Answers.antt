use Rattle.std.proofs.Common.{◌≡◌, ◌<◌, length, rules, arith}
use Rattle.rdfc_ndegree.proofs.Places.{first-next}
use Rattle.rdfc_ndegree.proofs.order.Order.place_after.Goals as goal

pub returns-clause-number : goal.returns-clause-number
returns-clause-number c =
    let numbers = c.self.inside.numbers.items in
    let there = c.index-there.result.now in
    let inside : c.args.place < length numbers = omega arith in
    let same : there ≡ c.args.number = search rules in
    first-next numbers c.args.self.now c.args.place there c.args.number c.self.view_is inside c.index-there.ensures same
