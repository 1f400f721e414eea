-- Trees of JSON values, and the tree that a JSON value is. RFC 8259, section 3.
use Rattle.std.specs.Prelude.{◌≡◌, ℕ, suc, ◌+◌, ◌^◌, max, ℤ, pos, negsuc, List, [], ◌∷◌, map, Bool, true, false, ◌&&◌, nat_lt, Option, Some, None}
use Rattle.std.specs.List.{list_all, list_any}
use Rattle.serde_json.specs.Find.{as_integer}
use Rattle.serde_json.specs.Data.{Num, Data, null, boolean, number, string, array, object, Items, no_items, item, Members, no_members, member}
pub use Rattle.base_types.specs.Order.{is_before, each_next}
use Rattle.json_tree.specs.declared.tree.Tree.{Tree, fold-Tree}
use Rattle.json_tree.specs.declared.tree.Tree.TheOpen.{Tree-F}
use Rattle.json_tree.specs.declared.tree.Tree.TheVariants as v
use Rattle.json_tree.specs.declared.tree.Item.{Item}
use Rattle.json_tree.specs.declared.tree.Member.{Member}

-- an element with its index, and a member with its name
abbrev pub element : ℕ → Tree → Item Tree
element at value = record { at = at; value = value }

abbrev pub new_member : List ℕ → Tree → Member Tree
new_member key value = record { key = key; value = value }

-- The number is whole where the reader gives it as an integer of 64 bits, with a sign or without:
-- so not where it is spelled with a fraction or an exponent, is out of this range, or is `-0`.
-- Every other number becomes a `Version`; whether one may stand where it stands is asked of the
-- tree (`first_misplaced`).
abbrev pub whole_or_version : Option ℤ → Tree
whole_or_version (Some z) = v.Whole z
whole_or_version None = v.Version

abbrev pub number_tree : Num → Tree
number_tree n = whole_or_version (as_integer n)

-- The tree of a JSON value: elements are numbered from 0, and members stand in the order in which
-- the reader keeps them, which is the byte order of their names.
abbrev mutual
  -- the tree of what the reader read
  pub tree_of : Data → Tree
  tree_of null = v.Null
  tree_of (boolean b) = v.Bool b
  tree_of (number n) = number_tree n
  tree_of (string s) = v.Text s
  tree_of (array ds) = v.List (elements_of 0 ds)
  tree_of (object ms) = v.Object (entries_of ms)

  -- the elements of a list, with their indexes from this number
  pub elements_of : ℕ → Items → List (Item Tree)
  elements_of n no_items = []
  elements_of n (item d ds) = element n (tree_of d) ∷ elements_of (n + 1) ds

  -- the members of an object
  pub entries_of : Members → List (Member Tree)
  entries_of no_members = []
  entries_of (member k d ms) = new_member k (tree_of d) ∷ entries_of ms

-- one level, with each value inside already seen as whether it is lawful
abbrev pub lawful_step : Tree-F Bool → Bool
lawful_step Tree-F.Null = true
lawful_step (Tree-F.Bool b) = true
lawful_step (Tree-F.Whole z) = true
lawful_step Tree-F.Version = true
lawful_step (Tree-F.Text t) = true
lawful_step (Tree-F.List items) =
    each_next (λ i j. nat_lt i.at j.at) items && list_all (λ i. i.value) items
lawful_step (Tree-F.Object members) =
    each_next (λ m n. is_before m.key n.key) members && list_all (λ m. m.value) members

-- Whether a tree is lawful: the names of each object, in byte order, and the indexes of each list's
-- elements rise strictly.
abbrev pub is_lawful : Tree → Bool
is_lawful = fold-Tree Bool lawful_step

-- the members of a lawful object: their names rise and their values are lawful
pub record AreLawful (members : List (Member Tree)) : Type 0 where
  pub rising : each_next (λ m n. is_before m.key n.key) members ≡ true
  pub values : list_all (λ m. is_lawful m.value) members ≡ true

-- ---- numbers

-- from -2^63 to 2^64 - 1; `negsuc n` is -(n + 1)
abbrev pub is_64_bits : ℤ → Bool
is_64_bits (pos n) = nat_lt n (2 ^ 64)
is_64_bits (negsuc n) = nat_lt n (2 ^ 63)

abbrev pub range_step : Tree-F Bool → Bool
range_step Tree-F.Null = true
range_step (Tree-F.Bool b) = true
range_step (Tree-F.Whole z) = is_64_bits z
range_step Tree-F.Version = true
range_step (Tree-F.Text t) = true
range_step (Tree-F.List items) = list_all (λ i. i.value) items
range_step (Tree-F.Object members) = list_all (λ m. m.value) members

-- Whether each whole number of a tree is in the range that is read.
abbrev pub is_in_range : Tree → Bool
is_in_range = fold-Tree Bool range_step

-- ---- nesting

-- the greatest of a list, or 0
abbrev pub greatest : List ℕ → ℕ
greatest [] = 0
greatest (n ∷ ns) = max n (greatest ns)

-- how many lists and objects are inside one another
abbrev pub levels_step : Tree-F ℕ → ℕ
levels_step Tree-F.Null = 0
levels_step (Tree-F.Bool b) = 0
levels_step (Tree-F.Whole z) = 0
levels_step Tree-F.Version = 0
levels_step (Tree-F.Text t) = 0
levels_step (Tree-F.List items) = suc (greatest (map (λ i. i.value) items))
levels_step (Tree-F.Object members) = suc (greatest (map (λ m. m.value) members))

abbrev pub levels_of : Tree → ℕ
levels_of = fold-Tree ℕ levels_step

-- How deep a tree nests: the root has nesting 1, of whatever kind it is, and each list or object
-- inside it adds 1. RFC 8259, section 9, leaves the limit to the reader.
abbrev pub nesting_of : Tree → ℕ
nesting_of t = max 1 (levels_of t)

-- the deepest nesting that is read
abbrev pub nesting_limit : ℕ
nesting_limit = 100

-- ---- the version number

abbrev pub version_step : Tree-F Bool → Bool
version_step Tree-F.Null = false
version_step (Tree-F.Bool b) = false
version_step (Tree-F.Whole z) = false
version_step Tree-F.Version = true
version_step (Tree-F.Text t) = false
version_step (Tree-F.List items) = list_any (λ i. i.value) items
version_step (Tree-F.Object members) = list_any (λ m. m.value) members

-- Whether a tree has a version number anywhere.
abbrev pub holds_version : Tree → Bool
holds_version = fold-Tree Bool version_step

-- ---- indexes

-- the elements numbered from n
abbrev pub numbered : ℕ → List (Item Tree) → List (Item Tree)
numbered n [] = []
numbered n (i ∷ is) = element n i.value ∷ numbered (n + 1) is

abbrev pub renumber_step : Tree-F Tree → Tree
renumber_step Tree-F.Null = v.Null
renumber_step (Tree-F.Bool b) = v.Bool b
renumber_step (Tree-F.Whole z) = v.Whole z
renumber_step Tree-F.Version = v.Version
renumber_step (Tree-F.Text t) = v.Text t
renumber_step (Tree-F.List items) = v.List (numbered 0 items)
renumber_step (Tree-F.Object members) = v.Object members

-- A tree with the elements of each list numbered from 0.
abbrev pub renumbered : Tree → Tree
renumbered = fold-Tree Tree renumber_step
