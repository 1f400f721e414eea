-- What the bytes spell, and the outcomes of reading them. RFC 8259.
use Rattle.std.specs.Prelude.{◌≡◌, ◌≤◌, ◌<◌, ℕ, List, Some, None, Result, Ok, Err}
use Rattle.std.specs.Str.{IsUtf8}
use Rattle.serde_json.specs.Data.{Data}
use Rattle.serde_json.specs.Read as json
use Rattle.json_tree.specs.declared.tree.Tree.{Tree}
use Rattle.json_tree.specs.declared.tree.TreeFault.{TreeFault}
use Rattle.json_tree.specs.declared.tree.TreeFault.TheVariants.{NotJson, NotWhole, TooDeep, Memory}
use Rattle.json_tree.specs.Trees.{tree_of, nesting_of, nesting_limit}
use Rattle.json_tree.specs.Places.{first_misplaced}

-- the bytes are UTF-8, and the reader's own definition gives this value for them
abbrev pub SpellsValue : List ℕ → Data → Type 0
SpellsValue bytes d = IsUtf8 bytes × (json.read bytes ≡ Some d)

-- the bytes spell this tree, however deep it nests and wherever its numbers that are not
-- whole stand
pub record Spells (bytes : List ℕ) (t : Tree) : Type 0 where
  pub value : Data
  pub spelled : SpellsValue bytes value
  pub is : t ≡ tree_of value

-- Each outcome of reading has its own case, and the cases exclude one another;
-- out of memory is free.
abbrev pub Reads : List ℕ → Result Tree TreeFault → Type 0
Reads bytes (Ok t) = Spells bytes t × (nesting_of t ≤ nesting_limit) × (first_misplaced t ≡ None)
Reads bytes (Err NotJson) = (t : Tree) → Spells bytes t → ⊥
Reads bytes (Err TooDeep) = (t : Tree) × Spells bytes t × (nesting_limit < nesting_of t)
Reads bytes (Err (NotWhole place)) =
    (t : Tree) × Spells bytes t × (nesting_of t ≤ nesting_limit)
    × (first_misplaced t ≡ Some place.steps)
Reads bytes (Err Memory) = Unit {0}
