-- Lists of lines, and the lines at given places of a list.
use Rattle.std.specs.Prelude.{◌==◌, ◌+◌, ℕ, Bool, List, [], ◌∷◌, All, if◌then◌else◌}
use Rattle.std.specs.List.{list_any}
use Rattle.nquads.specs.Lines.{IsLine}

-- each text is one line
abbrev pub AreLines : List (List ℕ) → Type 0
AreLines texts = All IsLine texts

-- whether the place is listed
abbrev pub is_listed : List ℕ → ℕ → Bool
is_listed places at = list_any (λ n. n == at) places

-- the lines at the listed places, where the first line stands at a place
abbrev pub listed_from : ℕ → List ℕ → List (List ℕ) → List (List ℕ)
listed_from at places [] = []
listed_from at places (l ∷ ls) =
    if is_listed places at then l ∷ listed_from (at + 1) places ls
    else listed_from (at + 1) places ls

-- the lines at all other places
abbrev pub unlisted_from : ℕ → List ℕ → List (List ℕ) → List (List ℕ)
unlisted_from at places [] = []
unlisted_from at places (l ∷ ls) =
    if is_listed places at then unlisted_from (at + 1) places ls
    else l ∷ unlisted_from (at + 1) places ls

-- the lines at the listed places, counted from 0, in order
abbrev pub lines_at : List ℕ → List (List ℕ) → List (List ℕ)
lines_at places lines = listed_from 0 places lines

-- the lines at all other places, in order
abbrev pub other_lines : List ℕ → List (List ℕ) → List (List ℕ)
other_lines places lines = unlisted_from 0 places lines
