use Rattle.json_tree.proofs.LeastMisplaced.{first_misplaced-None, first_misplaced-Some}
use Rattle.json_tree.proofs.laws.first_misplaced_is_the_least.Goals as goal

pub returns-clause-none : goal.returns-clause-none
returns-clause-none c = first_misplaced-None

pub returns-clause-least : goal.returns-clause-least
returns-clause-least c = first_misplaced-Some
