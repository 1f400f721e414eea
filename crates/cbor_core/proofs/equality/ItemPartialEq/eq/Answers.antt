use Rattle.cbor_core.proofs.EqualItems.{same_test}
use Rattle.cbor_core.proofs.equality.ItemPartialEq.eq.Goals as goal

pub returns : goal.returns
returns c = same_test c.args.self.now c.args.other.now c.are_equal.result c.are_equal.ensures
