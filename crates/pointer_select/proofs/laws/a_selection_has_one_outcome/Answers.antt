use Rattle.pointer_select.proofs.Selections.{one_outcome}
use Rattle.pointer_select.proofs.laws.a_selection_has_one_outcome.Goals as goal

pub returns : goal.returns
returns c = one_outcome
