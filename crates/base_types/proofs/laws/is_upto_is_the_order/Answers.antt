use Rattle.base_types.proofs.Orders.{is_upto-cmp, is_upto-refl, is_upto-total, is_upto-antisymmetric, is_upto-transitive}
use Rattle.base_types.proofs.laws.is_upto_is_the_order.Goals as goal

pub returns : goal.returns
returns c = record { agrees = is_upto-cmp; reflexive = is_upto-refl; total = is_upto-total; antisymmetric = is_upto-antisymmetric; transitive = is_upto-transitive }
