use Rattle.std.proofs.Common.{ℕ, List, rules, of_calls, ap}
use Rattle.std.specs.List.Sorted.{IsSortedBy, IsStableBy}
use Rattle.std.specs.Ordering.{is_lt}
use Rattle.std.proofs.lemmas.Fn.{always_returns_same}
use Rattle.jcs_text.specs.Internal.Naming.{name_at}
use Rattle.jcs_text.proofs.NameOrders.{is_earlier, names-ordered, order-only, indexes-below, members-ordered}
use Rattle.jcs_text.proofs.naming.name_order.Goals as goal

pub returns-clause-within : goal.returns-clause-within
returns-clause-within c = indexes-below _ _ _ c.in_ok-order.ensures c.sort_by.ensures.permutation

pub returns-clause-order : goal.returns-clause-order
returns-clause-order c =
    let ms = c.args.members.now in
    let name : ℕ → List ℕ = λ at. name_at ms at in
    let answers = always_returns_same _ _ _ (λ a r f k. (ap is_lt (search (rules, of_calls)), search (rules, of_calls))) in
    let up : IsSortedBy (is_earlier name) c.sort_by.new.self.items = c.in_ok-sort_by.ensures.sorted (is_earlier name) (names-ordered name) answers in
    let stable : IsStableBy (is_earlier name) c.in_ok-order.order.items c.sort_by.new.self.items = c.sort_by.ensures.stable (is_earlier name) (names-ordered name) answers in
    members-ordered ms c.in_ok-order.order.items c.sort_by.new.self.items c.in_ok-order.ensures (order-only name c.in_ok-order.order.items c.sort_by.new.self.items up stable)
