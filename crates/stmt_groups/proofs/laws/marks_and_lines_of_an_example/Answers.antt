use Rattle.stmt_groups.proofs.PartLemmas.{not_swapped, two_grouped, two_marked}
use Rattle.stmt_groups.proofs.laws.marks_and_lines_of_an_example.Goals as goal

pub returns-clause-marks : goal.returns-clause-marks
returns-clause-marks c = two_marked

pub returns-clause-not_swapped : goal.returns-clause-not_swapped
returns-clause-not_swapped c = not_swapped

pub returns-clause-lines : goal.returns-clause-lines
returns-clause-lines c = two_grouped
