use Rattle.json_tree.specs.Equality.{place_code}
use Rattle.json_tree.proofs.Sameness.{is_the_test, same_place_by_steps}
use Rattle.json_tree.proofs.comparing.PlacePartialEq.eq.Goals as goal

pub returns-clause-value : goal.returns-clause-value
returns-clause-value c = is_the_test place_code c.eq.result c.args.self.now c.args.other.now (same_place_by_steps c.args.self.now c.args.other.now c.eq.result c.eq.ensures)

pub returns-clause-exact : goal.returns-clause-exact
returns-clause-exact c = same_place_by_steps c.args.self.now c.args.other.now c.eq.result c.eq.ensures
