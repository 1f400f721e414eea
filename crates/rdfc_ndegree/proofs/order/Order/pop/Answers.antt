use Rattle.std.proofs.Common.{◌≡◌, ◌-◌, ℕ, suc, length, Some, nat_eq, sym, ap, ◌∙◌, arith, rules}
use Rattle.indexmap.specs.IndexMap.{get}
use Rattle.rdfc_ndegree.specs.NumberIssuers.{place_in}
use Rattle.rdfc_ndegree.proofs.Places.{FindsPlaces-taken_last, FindsPlaces-taken_before}
use Rattle.rdfc_ndegree.proofs.order.Order.pop.Goals as goal

pub invariant_of-self : goal.invariant_of-self
invariant_of-self c =
    let numbers = c.self.inside.numbers.items in
    let number = c.index.result.now in
    let k : ℕ = c.len-count.result - 1 in
    let long : length numbers ≡ suc k = omega arith in
    let last : place_in numbers number ≡ Some k = search rules in
    rw c.truncate.ensures.items
    (FindsPlaces-taken_last (get nat_eq c.self.inside.places) (get nat_eq c.swap_remove.new.self) numbers k number c.self.invariant long c.index.ensures last c.swap_remove.ensures.updates.0)

pub invariant_of-self-else-eq : goal.invariant_of-self-else-eq
invariant_of-self-else-eq c =
    let numbers = c.self.inside.numbers.items in
    let number = c.index.result.now in
    let k : ℕ = c.len-count.result - 1 in
    let long : length numbers ≡ suc k = omega arith in
    let other : place_in numbers number ≡ Some k → ⊥ = λ e. let same : c.place_of-place.result ≡ Some k = c.place_of-place.ensures ∙ ap (λ xs. place_in xs number) (sym c.self.view_is) ∙ e in search rules in
    rw c.truncate.ensures.items (FindsPlaces-taken_before (get nat_eq c.self.inside.places) numbers k number c.self.invariant long c.index.ensures other)
