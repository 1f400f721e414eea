-- The names of an object's members, by their indexes.
use Rattle.std.specs.Prelude.{ℕ, List, [], Option, Some, None, slice_get}
use Rattle.json_tree.specs.declared.tree.Tree.{Tree}
use Rattle.json_tree.specs.declared.tree.Member.{Member}

-- the name of a member, and the empty text where there is none
abbrev pub name_in : Option (Member Tree) → List ℕ
name_in (Some m) = m.key
name_in None = []

-- the name of the member at an index
abbrev pub name_at : List (Member Tree) → ℕ → List ℕ
name_at members at = name_in (slice_get members at)
