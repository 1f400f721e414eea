use Rattle.json_tree.proofs.TreeLemmas.{lawful_members}
use Rattle.json_tree.proofs.tree.Tree.as_object.Goals as goal

pub returns-in-Object-clause-lawful : goal.returns-in-Object-clause-lawful
returns-in-Object-clause-lawful c lawful = lawful_members _ _ _ lawful c.in-Object.is c.as_slice.ensures
