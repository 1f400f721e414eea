use Rattle.std.proofs.Common.{◌≡◌, ◌==◌, length, true, false, nat_eq, rules}
use Rattle.std.specs.Prelude.{is_some}
use Rattle.std.specs.List.{list_any}
use Rattle.indexmap.specs.IndexMap.{get}
use Rattle.rdfc_ndegree.proofs.Places.{FindsPlaces-push, FindsPlaces-again, is-named, not-named}
use Rattle.rdfc_ndegree.proofs.order.Order.push.Goals as goal

pub invariant_of-self-then-is_some : goal.invariant_of-self-then-is_some
invariant_of-self-then-is_some c =
    let numbers = c.self.inside.numbers.items in
    let kept : is_some c.place_of.result ≡ true = search rules in
    let named : list_any (λ m. m == c.args.number) numbers ≡ true = is-named numbers c.args.self.now c.args.number c.place_of.result c.self.view_is c.place_of.ensures kept in
    rw c.in_ok-push.ensures.items (FindsPlaces-again (get nat_eq c.self.inside.places) numbers c.args.number c.self.invariant named)

pub invariant_of-self-2 : goal.invariant_of-self-2
invariant_of-self-2 c =
    let numbers = c.self.inside.numbers.items in
    let empty : is_some c.place_of.result ≡ false = search rules in
    let none : list_any (λ m. m == c.args.number) numbers ≡ false = not-named numbers c.args.self.now c.args.number c.place_of.result c.self.view_is c.place_of.ensures empty in
    let len : c.len-place.result ≡ length numbers = search rules in
    rw (c.push_reserved.ensures.items, c.reserve.ensures.items)
    (FindsPlaces-push (get nat_eq c.self.inside.places) (get nat_eq c.insert.new.self) numbers c.args.number c.len-place.result c.self.invariant none len c.in_ok-insert.ensures.updates.0)
