-- The one condition on trees: it holds of what is read, it is asked of what is printed, and look-up
-- keeps it.
use Rattle.std.specs.Prelude.{◌≡◌, List, true, None}
use Rattle.json_tree.specs.declared.tree.Tree.{Tree}
use Rattle.json_tree.specs.declared.tree.Tree.TheVariants as v
use Rattle.json_tree.specs.declared.tree.Member.{Member}
use Rattle.json_tree.specs.Trees.{is_lawful, is_in_range}
use Rattle.json_tree.specs.Places.{misplaced}

-- The names of each object and the indexes of each list rise, whole numbers are from -2^63 to
-- 2^64 - 1, and a version number inside the tree is the value of a member `@version`.
pub record IsWellFormed (t : Tree) : Type 0 where
  pub lawful : is_lawful t ≡ true
  pub in_range : is_in_range t ≡ true
  pub versions : misplaced t true ≡ None

-- the same of an object's members
abbrev pub AreWellFormed : List (Member Tree) → Type 0
AreWellFormed members = IsWellFormed (v.Object members)
