use Rattle.stmt_groups.proofs.PartLemmas.{nothing_stray, one_least}
use Rattle.stmt_groups.proofs.laws.parts_have_one_outcome.Goals as goal

pub returns-clause-apart : goal.returns-clause-apart
returns-clause-apart c = nothing_stray

pub returns-clause-one_text : goal.returns-clause-one_text
returns-clause-one_text c = one_least
