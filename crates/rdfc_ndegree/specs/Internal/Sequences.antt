-- The step from one sequence of a list's numbers to the next in lexicographic order.
use Rattle.std.specs.Prelude.{◌≡◌, ◌<◌, ◌≤◌, ◌+◌, ◌++◌, ℕ, List, [], ◌∷◌, Bool, true, false, Option, Some, None, length, reverse, slice_index, drop}
use Rattle.std.specs.List.{AllByRecursion}

-- each number is at least every later one
abbrev pub Falls : List ℕ → Type 0
Falls [] = Unit {0}
Falls (x ∷ xs) = AllByRecursion (λ y. y ≤ x) xs × Falls xs

-- The step to the next sequence: the numbers behind x fall, y is the last of them above x, and
-- after the step y stands in the place of x and the others rise.
pub record IsStep (old new : List ℕ) : Type 0 where
  pub before : List ℕ
  pub pivot : ℕ
  pub higher : List ℕ
  pub above : ℕ
  pub lower : List ℕ
  pub old_is : old ≡ before ++ pivot ∷ (higher ++ above ∷ lower)
  pub new_is : new ≡ before ++ above ∷ reverse (higher ++ pivot ∷ lower)
  pub falls : Falls (higher ++ above ∷ lower)
  pub over : pivot < above
  pub under : AllByRecursion (λ y. y ≤ pivot) lower

-- Either the step was made, or the numbers fall and are as before.
abbrev pub Advances : List ℕ → List ℕ → Bool → Type 0
Advances old new true = IsStep old new
Advances old new false = Falls old × (new ≡ old)

-- the last place whose number is below the next one
abbrev pub IsPivot : List ℕ → Option ℕ → Type 0
IsPivot xs None = Falls xs
IsPivot xs (Some at) =
    (at + 1 < length xs) × (slice_index xs at < slice_index xs (at + 1)) × Falls (drop (at + 1) xs)

-- the last place after the pivot whose number is above that of the pivot
abbrev pub IsLastAbove : List ℕ → ℕ → ℕ → Type 0
IsLastAbove xs pivot at =
    (pivot < at) × (at < length xs) × (slice_index xs pivot < slice_index xs at)
    × AllByRecursion (λ y. y ≤ slice_index xs pivot) (drop (at + 1) xs)
