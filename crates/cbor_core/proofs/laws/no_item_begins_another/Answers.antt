use Rattle.cbor_core.proofs.Whole.{one_item}
use Rattle.cbor_core.proofs.laws.no_item_begins_another.Goals as goal

pub returns : goal.returns
returns c = λ levels m n i j a b x y s t e. one_item levels m n i j a b x y s t e
