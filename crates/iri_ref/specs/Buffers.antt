-- Removal of dot segments as RFC 3986, 5.2.4, words it: an input and an output buffer. The
-- definition on segments is `remove_dot_segments`; the two give one text.
use Rattle.std.specs.Prelude.{ℕ, List, [], ◌∷◌, ◌++◌, Bool, ◌||◌, ◌==◌, if◌then◌else◌, is_some, unwrap_or}
use Rattle.iri_ref.specs.Components.{before, after, from}
use Rattle.iri_ref.specs.Resolution.{is_dot, is_dot_dot}

-- the output without its last segment and the slash before it, if any
abbrev pub without_last : List ℕ → List ℕ
without_last [] = []
without_last (b ∷ bs) = if is_some (after 47 bs) then b ∷ without_last bs else []

-- whether a segment is `.` or `..`
abbrev pub is_dots : List ℕ → Bool
is_dots segment = is_dot segment || is_dot_dot segment

-- the input after a turn. B, C: a dot segment after a slash goes, and the slash stays. A, D: so
-- does one at the start, with the slash after it. E: else the first segment is moved.
abbrev pub next_input : List ℕ → List ℕ
next_input [] = []
next_input (b ∷ rest) =
    if b == 47
    then (if is_dots (before 47 rest) then 47 ∷ unwrap_or (after 47 rest) [] else from 47 rest)
    else if is_dots (before 47 (b ∷ rest)) then unwrap_or (after 47 (b ∷ rest)) []
    else from 47 (b ∷ rest)

-- the output after a turn. C: the last segment goes. E: the first segment of the input, with its
-- slash, is added.
abbrev pub next_output : List ℕ → List ℕ → List ℕ
next_output [] output = output
next_output (b ∷ rest) output =
    if b == 47
    then (if is_dot (before 47 rest) then output
    else if is_dot_dot (before 47 rest) then without_last output
    else output ++ 47 ∷ before 47 rest)
    else if is_dots (before 47 (b ∷ rest)) then output
    else output ++ before 47 (b ∷ rest)

-- The loop, from an input and an output buffer to the result: it turns until the input is empty.
-- RFC 3986, 5.2.4
pub data Removes : List ℕ → List ℕ → List ℕ → Type 0 where
  ends : (output : List ℕ) → Removes [] output output
  turns :
      (b : ℕ) (bs output result : List ℕ)
      → Removes (next_input (b ∷ bs)) (next_output (b ∷ bs) output) result
      → Removes (b ∷ bs) output result
