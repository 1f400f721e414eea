use Rattle.pointer_select.proofs.Selections.{again_same}
use Rattle.pointer_select.proofs.laws.selecting_again_changes_nothing.Goals as goal

pub returns : goal.returns
returns c = again_same
