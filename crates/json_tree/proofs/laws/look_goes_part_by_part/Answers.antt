use Rattle.json_tree.proofs.Outcomes.{look-append}
use Rattle.json_tree.proofs.laws.look_goes_part_by_part.Goals as goal

pub returns : goal.returns
returns c = look-append
