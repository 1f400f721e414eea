use Rattle.json_tree.proofs.SameLevels.{one_of_levels}
use Rattle.json_tree.proofs.laws.levels_make_the_tree.Goals as goal

pub returns : goal.returns
returns c = one_of_levels
