use Rattle.stmt_groups.proofs.LineLemmas.{lines_at-length, other_lines-length}
use Rattle.stmt_groups.proofs.laws.rising_places_count_their_lines.Goals as goal

pub returns-clause-listed : goal.returns-clause-listed
returns-clause-listed c = lines_at-length

pub returns-clause-others : goal.returns-clause-others
returns-clause-others c = other_lines-length
