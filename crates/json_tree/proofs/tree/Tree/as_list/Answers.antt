use Rattle.std.proofs.Common.{nat_lt, ap, ◌∙◌}
use Rattle.json_tree.specs.Trees.{each_next}
use Rattle.json_tree.proofs.TreeLemmas.{items_rise}
use Rattle.json_tree.proofs.tree.Tree.as_list.Goals as goal

pub returns-in-List-clause-rising : goal.returns-in-List-clause-rising
returns-in-List-clause-rising c lawful = ap (each_next (λ i j. nat_lt i.at j.at)) c.as_slice.ensures ∙ items_rise _ _ lawful c.in-List.is
