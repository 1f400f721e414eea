use Rattle.cbor_core.proofs.EqualItems.{equal_is_same}
use Rattle.cbor_core.proofs.laws.equal_items_are_the_same.Goals as goal

pub returns : goal.returns
returns c = equal_is_same
