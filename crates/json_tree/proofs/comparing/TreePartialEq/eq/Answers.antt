use Rattle.json_tree.specs.Equality.{tree_code}
use Rattle.json_tree.proofs.Sameness.{is_the_test}
use Rattle.json_tree.proofs.comparing.TreePartialEq.eq.Goals as goal

pub returns-clause-value : goal.returns-clause-value
returns-clause-value c = is_the_test tree_code c.same_trees.result c.args.self.now c.args.other.now c.same_trees.ensures
