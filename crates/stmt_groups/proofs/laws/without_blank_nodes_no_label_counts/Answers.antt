use Rattle.stmt_groups.proofs.IssueLemmas.{issue_without_blanks, value_without_blanks}
use Rattle.stmt_groups.proofs.laws.without_blank_nodes_no_label_counts.Goals as goal

pub returns-clause-issued : goal.returns-clause-issued
returns-clause-issued c = issue_without_blanks

pub returns-clause-good : goal.returns-clause-good
returns-clause-good c = value_without_blanks
