use Rattle.json_tree.specs.Equality.{step_code}
use Rattle.json_tree.proofs.Sameness.{is_the_test}
use Rattle.json_tree.proofs.comparing.StepPartialEq.eq.Goals as goal

pub returns-clause-value : goal.returns-clause-value
returns-clause-value c = is_the_test step_code c.same_steps.result c.args.self.now c.args.other.now c.same_steps.ensures
