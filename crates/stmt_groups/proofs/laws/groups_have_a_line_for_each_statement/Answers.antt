use Rattle.stmt_groups.proofs.GroupLines.{as_many, mandatory_is_chosen}
use Rattle.stmt_groups.proofs.laws.groups_have_a_line_for_each_statement.Goals as goal

pub returns-clause-chosen : goal.returns-clause-chosen
returns-clause-chosen c = mandatory_is_chosen

pub returns-clause-count : goal.returns-clause-count
returns-clause-count c = λ label p lines labelled dataset groups. as_many label p lines labelled groups dataset
