-- An identifier issuer over numbers: the numbers that it has named, in order. RDF Canonicalization,
-- 4.3 and 4.5.
use Rattle.std.specs.Prelude.{◌≡◌, ◌==◌, ◌+◌, ◌++◌, ℕ, List, [], ◌∷◌, Option, Some, None, if◌then◌else◌, slice_get}
use Rattle.std.specs.List.{list_any}
use Rattle.base_types.specs.Sets.{AllDiffer}

-- the place of a number in the list, from 0
abbrev pub number_in : List ℕ → ℕ → ℕ
number_in [] n = 0
number_in (m ∷ ms) n = if m == n then 0 else 1 + number_in ms n

-- the place of a number, if it is in the list
abbrev pub place_in : List ℕ → ℕ → Option ℕ
place_in order n = if list_any (λ m. m == n) order then Some (number_in order n) else None

-- the issuer after naming a number; one that is named already keeps its place. -- RDF
-- Canonicalization, 4.5
abbrev pub issue_number : List ℕ → ℕ → List ℕ
issue_number order n = if list_any (λ m. m == n) order then order else order ++ n ∷ []

-- what stands at a number, and nothing past the end
abbrev pub place_at : Option (Option ℕ) → Option ℕ
place_at None = None
place_at (Some place) = place

-- beside each number stands its first place in the order
abbrev pub HasPlaces : List (Option ℕ) → List ℕ → Type 0
HasPlaces places order = (n : ℕ) → place_at (slice_get places n) ≡ place_in order n

-- The order names no number twice, and beside each number stands its place in the order.
pub record ArePlaces (places : List (Option ℕ)) (order : List ℕ) : Type 0 where
  pub differ : AllDiffer order
  pub each : HasPlaces places order
