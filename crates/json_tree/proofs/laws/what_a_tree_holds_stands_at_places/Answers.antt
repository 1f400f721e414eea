use Rattle.json_tree.proofs.Everywhere.{no_version-places, in_range-places}
use Rattle.json_tree.proofs.laws.what_a_tree_holds_stands_at_places.Goals as goal

pub returns-clause-version : goal.returns-clause-version
returns-clause-version c = no_version-places

pub returns-clause-in_range : goal.returns-clause-in_range
returns-clause-in_range c = in_range-places
