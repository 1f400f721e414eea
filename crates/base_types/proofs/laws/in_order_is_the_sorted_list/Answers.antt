use Rattle.base_types.proofs.Orders.{in_order-permutation, in_order-sorted, in_order-only, in_order-free}
use Rattle.base_types.proofs.laws.in_order_is_the_sorted_list.Goals as goal

pub returns : goal.returns
returns c = record { moves = in_order-permutation; sorted = in_order-sorted; only = in_order-only; any_order = in_order-free }
