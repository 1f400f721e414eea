-- The places that a selection keeps. Data Integrity ECDSA Cryptosuites 1.0, 3.4 (selectPaths,
-- createInitialSelection).
use Rattle.std.specs.Prelude.{◌≡◌, ◌⊎◌, ◌++◌, ◌∷◌, [], ℕ, List, Bool, true, Contains, codes}
use Rattle.std.specs.List.{list_any}
use Rattle.std.specs.Str.{bytes_eq}
use Rattle.json_tree.specs.declared.place.Step.{Step}
use Rattle.json_tree.specs.declared.place.Step.TheVariants.{Key}

-- The names of the members that each object on the way to a selected value keeps, whatever was
-- selected: what names it, what it is, and how it is read.
abbrev pub is_kept_name : List ℕ → Bool
is_kept_name key = list_any (bytes_eq key)
    (codes "id" ∷ codes "type" ∷ codes "@id" ∷ codes "@type" ∷ codes "@context" ∷ [])

-- The place is above the other, or at it.
pub record IsUpTo (place other : List Step) : Type 0 where
  pub rest : List Step
  pub goes_on : other ≡ place ++ rest

-- The place is at or below a member with a kept name, of an object above the pointed place or at
-- it.
pub record IsUnderKeptName (pointed place : List Step) : Type 0 where
  pub object : List Step
  pub on_the_way : IsUpTo object pointed
  pub key : List ℕ
  pub name : is_kept_name key ≡ true
  pub at_or_below : IsUpTo (object ++ Key key ∷ []) place

-- A place is kept for a pointed one: above it or at it, at it or below it, or under a kept name.
abbrev pub IsKeptFor : List Step → List Step → Type 0
IsKeptFor pointed place =
    IsUpTo place pointed ⊎ IsUpTo pointed place ⊎ IsUnderKeptName pointed place

-- A place is kept for some of the pointed ones.
pub record IsKept (places : List (List Step)) (place : List Step) : Type 0 where
  pub pointed : List Step
  pub one_of : Contains places pointed
  pub kept : IsKeptFor pointed place
