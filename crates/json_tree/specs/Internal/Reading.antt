-- What the steps of reading say of a value.
use Rattle.std.specs.Prelude.{◌≡◌, ◌≤◌, ◌<◌, List, true, reverse, Vec, Option, Some, None, option_map, Result, Ok, Err}
use Rattle.std.specs.declared.alloc.Global.{Global}
use Rattle.std.specs.List.{list_all}
use Rattle.serde_json.specs.Data.{Data, Items, Members}
use Rattle.json_tree.specs.declared.tree.Tree.{Tree}
use Rattle.json_tree.specs.declared.tree.TreeFault.{TreeFault}
use Rattle.json_tree.specs.declared.tree.TreeFault.TheVariants.{NotJson, NotWhole, TooDeep, Memory}
use Rattle.json_tree.specs.declared.tree.Item.{Item}
use Rattle.json_tree.specs.declared.tree.Member.{Member}
use Rattle.json_tree.specs.declared.place.Step.{Step}
use Rattle.json_tree.specs.Trees.{tree_of, elements_of, entries_of, each_next, is_before, is_lawful, is_in_range, nesting_of, nesting_limit}
use Rattle.json_tree.specs.Places.{first_misplaced}

-- the outcomes of reading, of the tree that the bytes spell
abbrev pub ReadsTree : Tree → Result Tree TreeFault → Type 0
ReadsTree t (Ok read) = (read ≡ t) × (nesting_of t ≤ nesting_limit) × (first_misplaced t ≡ None)
ReadsTree t (Err NotJson) = ⊥
ReadsTree t (Err TooDeep) = nesting_limit < nesting_of t
ReadsTree t (Err (NotWhole place)) =
    (nesting_of t ≤ nesting_limit) × (first_misplaced t ≡ Some place.steps)
ReadsTree t (Err Memory) = Unit {0}

-- the steps that were found, from the last to the first
abbrev pub steps_found : Option (Vec Step Global) → Option (List Step)
steps_found found = option_map (λ steps. reverse steps.items) found

-- what the steps of reading say of a value, of a list's elements and of an object's members: the
-- tree, that it is lawful, and that its numbers are in range
pub record IsTreeOf (d : Data) (t : Tree) : Type 0 where
  pub is : t ≡ tree_of d
  pub lawful : is_lawful t ≡ true
  pub in_range : is_in_range t ≡ true

pub record AreElementsOf (ds : Items) (elements : List (Item Tree)) : Type 0 where
  pub is : elements ≡ elements_of 0 ds
  pub lawful : list_all (λ i. is_lawful i.value) elements ≡ true
  pub in_range : list_all (λ i. is_in_range i.value) elements ≡ true

pub record AreEntriesOf (ms : Members) (members : List (Member Tree)) : Type 0 where
  pub is : members ≡ entries_of ms
  pub rising : each_next (λ m n. is_before m.key n.key) members ≡ true
  pub lawful : list_all (λ m. is_lawful m.value) members ≡ true
  pub in_range : list_all (λ m. is_in_range m.value) members ≡ true
