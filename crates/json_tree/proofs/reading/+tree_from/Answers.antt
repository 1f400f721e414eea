use Rattle.std.proofs.Common.{refl}
use Rattle.json_tree.proofs.Containers.{entries_made, list_read, object_read}
use Rattle.json_tree.proofs.reading.+tree_from.Goals as goal

pub members_from-returns : goal.members_from-returns
members_from-returns t c =
    entries_made _ _ _ c.loop-name.invariant.read c.in-None.ensures.steps.0 c.into_iter-name-iterator.ensures.into_iter_gives.5 c.loop-name.invariant.lawful c.loop-name.invariant.in_range

pub tree_from-returns-in_ok-elements_from-in-Array : goal.tree_from-returns-in_ok-elements_from-in-Array
tree_from-returns-in_ok-elements_from-in-Array t c = list_read _ _ _ _ c.in-Array.is refl c.in_ok-elements_from-in-Array.ensures

pub tree_from-returns-in_ok-members_from-in-Object : goal.tree_from-returns-in_ok-members_from-in-Object
tree_from-returns-in_ok-members_from-in-Object t c = object_read _ _ _ c.in-Object.is c.in_ok-members_from-in-Object.ensures
