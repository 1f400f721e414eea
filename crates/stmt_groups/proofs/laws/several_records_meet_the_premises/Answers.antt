use Rattle.stmt_groups.proofs.ExampleLemmas.{example_records, example_labels, example_premises, example_good}
use Rattle.stmt_groups.proofs.laws.several_records_meet_the_premises.Goals as goal

pub returns-clause-records : goal.returns-clause-records
returns-clause-records c = example_records

pub returns-clause-labels : goal.returns-clause-labels
returns-clause-labels c = example_labels

pub returns-clause-premises : goal.returns-clause-premises
returns-clause-premises c = example_premises

pub returns-clause-good : goal.returns-clause-good
returns-clause-good c = example_good
