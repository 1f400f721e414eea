use Rattle.json_tree.proofs.OnePointer.{one_place}
use Rattle.json_tree.proofs.laws.a_pointer_names_one_place.Goals as goal

pub returns : goal.returns
returns c = one_place
