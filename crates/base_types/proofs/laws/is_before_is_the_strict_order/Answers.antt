use Rattle.base_types.proofs.Orders.{is_before-strict, is_upto-before, is_before-cases}
use Rattle.base_types.proofs.laws.is_before_is_the_strict_order.Goals as goal

pub returns : goal.returns
returns c = record { strict = is_before-strict; upto = is_upto-before; one_of_three = is_before-cases }
