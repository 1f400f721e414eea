-- The part of a tree that pointers select. Data Integrity ECDSA Cryptosuites 1.0, 3.4
-- (selectJsonLd).
use Rattle.std.specs.Prelude.{◌≡◌, ℕ, List, [], map, true, Option, Some, None, option_map, Result, Ok, Err}
use Rattle.json_tree.specs.declared.tree.Tree.{Tree, out-Tree}
use Rattle.json_tree.specs.declared.tree.Tree.TheOpen.{Tree-F}
use Rattle.json_tree.specs.declared.place.Step.{Step}
use Rattle.json_tree.specs.Levels.{Level}
use Rattle.json_tree.specs.Places.{look}
use Rattle.json_tree.specs.Trees.{is_lawful}
use Rattle.pointer_select.specs.declared.fault.SelectFault.{SelectFault}
use Rattle.pointer_select.specs.declared.fault.SelectFault.TheVariants.{Missing, Memory}
use Rattle.pointer_select.specs.Naming.{place_of, first_missing}
use Rattle.pointer_select.specs.Kept.{IsKept}

-- a level without what it contains: a value that contains nothing, that it is a list, or an object
abbrev pub kind_in : Tree-F Tree → Level
kind_in Tree-F.Null = Tree-F.Null
kind_in (Tree-F.Bool b) = Tree-F.Bool b
kind_in (Tree-F.Whole z) = Tree-F.Whole z
kind_in Tree-F.Version = Tree-F.Version
kind_in (Tree-F.Text text) = Tree-F.Text text
kind_in (Tree-F.List items) = Tree-F.List []
kind_in (Tree-F.Object members) = Tree-F.Object []

-- What stands at a place, without what it contains.
abbrev pub kind_at : List Step → Tree → Option Level
kind_at place t = option_map (λ u. kind_in (out-Tree u)) (look place t)

-- A tree restricted to some places: at these stands what stood there, but for what lists and
-- objects contain, and at no other place stands anything.
pub record IsRestrictedTo (Keeps : List Step → Type 0) (t part : Tree) : Type 0 where
  pub lawful : is_lawful part ≡ true
  pub kept : (place : List Step) → Keeps place → kind_at place part ≡ kind_at place t
  pub left_out : (place : List Step) → (Keeps place → ⊥) → look place part ≡ None

-- The part of a tree that pointers select: each names a place, and the tree is restricted to the
-- places that are kept for these.
pub record IsSelection (pointers : List (List (List ℕ))) (t part : Tree) : Type 0 where
  pub places : List (List Step)
  pub are_places : map (λ tokens. place_of tokens t) pointers ≡ map Some places
  pub restricts : IsRestrictedTo (IsKept places) t part

-- Each outcome of a selection has its own case, and the cases exclude one another; out of memory is
-- free. Nothing is selected exactly where there are no pointers.
abbrev pub Selects : List (List (List ℕ)) → Tree → Result (Option Tree) SelectFault → Type 0
Selects pointers t (Ok None) = pointers ≡ []
Selects pointers t (Ok (Some part)) = IsSelection pointers t part
Selects pointers t (Err (Missing index)) = first_missing pointers t ≡ Some index
Selects pointers t (Err Memory) = Unit {0}
