-- The search for the least pair of places with one text, by recursion from the first place on.
use Rattle.std.specs.Prelude.{ℕ, ◌+◌, List, [], ◌∷◌, Option, Some, None, if◌then◌else◌}
use Rattle.std.specs.Str.{bytes_eq}

-- the first place of a text, where the texts begin at a place
abbrev pub place_from : ℕ → List (List ℕ) → List ℕ → Option ℕ
place_from at [] text = None
place_from at (t ∷ ts) text = if bytes_eq t text then Some at else place_from (1 + at) ts text

-- the pair of a place and a later one, or else the pair that was found
abbrev pub pair_or : ℕ → Option ℕ → Option (ℕ × ℕ) → Option (ℕ × ℕ)
pair_or at (Some later) found = Some (at, later)
pair_or at None found = found

-- the least pair of places with one text, where the texts begin at a place
abbrev pub least_from : ℕ → List (List ℕ) → Option (ℕ × ℕ)
least_from at [] = None
least_from at (t ∷ ts) = pair_or at (place_from (1 + at) ts t) (least_from (1 + at) ts)
