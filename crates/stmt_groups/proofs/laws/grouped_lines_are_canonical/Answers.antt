use Rattle.stmt_groups.proofs.GroupLines.{chosen_lines_are, mandatory_lines_are, other_lines_are, whole_lines}
use Rattle.stmt_groups.proofs.laws.grouped_lines_are_canonical.Goals as goal

pub returns-clause-whole : goal.returns-clause-whole
returns-clause-whole c = whole_lines

pub returns-clause-mandatory : goal.returns-clause-mandatory
returns-clause-mandatory c = mandatory_lines_are

pub returns-clause-chosen : goal.returns-clause-chosen
returns-clause-chosen c = chosen_lines_are

pub returns-clause-others : goal.returns-clause-others
returns-clause-others c = λ label p lines others labelled groups split. other_lines_are label p lines labelled groups others split
