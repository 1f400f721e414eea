use Rattle.ld_termdef.proofs.Kept.{unchanged}
use Rattle.ld_termdef.proofs.laws.no_entries_change_nothing.Goals as goal

pub returns : goal.returns
returns c = unchanged
