use Rattle.json_tree.proofs.PlaceOrder.{place_cmp_total, place_cmp-Equal}
use Rattle.json_tree.proofs.laws.places_have_one_order.Goals as goal

pub returns-clause-total : goal.returns-clause-total
returns-clause-total c = place_cmp_total

pub returns-clause-equal : goal.returns-clause-equal
returns-clause-equal c = place_cmp-Equal
