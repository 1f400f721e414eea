use Rattle.std.proofs.Common.{◌≡◌, ◌==◌, length, false, rules}
use Rattle.std.specs.Prelude.{is_some}
use Rattle.std.specs.List.{list_any}
use Rattle.rdfc_ndegree.proofs.Places.{ArePlaces-longer, ArePlaces-push, not-named}
use Rattle.rdfc_ndegree.proofs.canonical.Canonical.issue.Goals as goal

pub invariant_of-self-2 : goal.invariant_of-self-2
invariant_of-self-2 c =
    let places = c.make_room.new.places.items in
    let order = c.self.inside.order.items in
    let longer = ArePlaces-longer c.self.inside.places.items places order c.self.invariant c.make_room.ensures.same in
    let empty : is_some c.number.result ≡ false = search rules in
    let none : list_any (λ m. m == c.args.node) order ≡ false = not-named order c.args.self.now c.args.node c.number.result c.self.view_is c.number.ensures empty in
    let len : c.len-place.result ≡ length order = search rules in
    rw (c.in_ok-push.ensures.items, len) (ArePlaces-push places order c.args.node longer none c.in_ok-make_room.ensures.room)
