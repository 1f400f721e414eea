use Rattle.stmt_groups.proofs.MapLemmas.{holds_under_own}
use Rattle.stmt_groups.proofs.laws.what_holds_does_so_under_a_renaming.Goals as goal

pub returns : goal.returns
returns c = holds_under_own
