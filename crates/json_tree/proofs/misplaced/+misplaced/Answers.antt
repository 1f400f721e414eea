use Rattle.json_tree.proofs.Equations.{misplaced-List, misplaced-Object}
use Rattle.json_tree.proofs.misplaced.+misplaced.Goals as goal

pub find-returns-in-List : goal.find-returns-in-List
find-returns-in-List t c = rw (c.in-List.is, misplaced-List, ← c.as_slice.ensures) c.find_in_items.ensures

pub find-returns-in-Object : goal.find-returns-in-Object
find-returns-in-Object t c = rw (c.in-Object.is, misplaced-Object, ← c.as_slice-in-Object.ensures) c.find_in_members.ensures
