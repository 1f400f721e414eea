use Rattle.pointer_select.proofs.Selections.{pointed_whole, more_kept}
use Rattle.pointer_select.proofs.laws.what_is_pointed_at_is_whole.Goals as goal

pub returns-clause-whole : goal.returns-clause-whole
returns-clause-whole c = pointed_whole

pub returns-clause-more : goal.returns-clause-more
returns-clause-more c = more_kept
