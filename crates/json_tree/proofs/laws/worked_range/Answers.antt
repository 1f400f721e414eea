use Rattle.std.proofs.Common.{refl}
use Rattle.json_tree.proofs.laws.worked_range.Goals as goal

pub returns-clause-least : goal.returns-clause-least
returns-clause-least c = refl

pub returns-clause-below : goal.returns-clause-below
returns-clause-below c = refl

pub returns-clause-greatest : goal.returns-clause-greatest
returns-clause-greatest c = refl

pub returns-clause-above : goal.returns-clause-above
returns-clause-above c = refl
