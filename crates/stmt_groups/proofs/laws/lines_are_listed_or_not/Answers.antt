use Rattle.stmt_groups.proofs.LineLemmas.{lines_are_split, no_other_line}
use Rattle.stmt_groups.proofs.laws.lines_are_listed_or_not.Goals as goal

pub returns-clause-elements : goal.returns-clause-elements
returns-clause-elements c = lines_are_split

pub returns-clause-all : goal.returns-clause-all
returns-clause-all c = no_other_line
