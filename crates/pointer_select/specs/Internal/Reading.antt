-- A pointer as it is read: byte by byte, with the tokens that are done and the one that is not.
use Rattle.std.specs.Prelude.{◌≡◌, ◌<◌, ◌+◌, ◌^◌, ℕ, List, [], ◌∷◌, ◌++◌, Bool, true, false, ◌==◌, Option, Some, None, if◌then◌else◌, decimal}
use Rattle.pointer_select.specs.declared.reading.Reading.{Reading}
use Rattle.pointer_select.specs.Pointers.{begins_otherwise, is_bad_escape}

-- the first byte from n on at which an escape is bad
abbrev pub first_bad_escape : ℕ → List ℕ → Option ℕ
first_bad_escape n [] = None
first_bad_escape n (c ∷ cs) =
    if is_bad_escape (c ∷ cs) then Some n else first_bad_escape (n + 1) cs

-- the first byte at which a text leaves the grammar
abbrev pub first_fault : List ℕ → Option ℕ
first_fault text = if begins_otherwise text then Some 0 else first_bad_escape 0 text

-- what a byte after `~` stands for
abbrev pub meant : ℕ → ℕ
meant c = if c == 48 then 126 else (if c == 49 then 47 else c)

-- the tokens of the rest of a text, where one is begun and a `~` may stand before the rest
abbrev pub tokens_from : Bool → List ℕ → List ℕ → List (List ℕ)
tokens_from escape token [] = token ∷ []
tokens_from true token (c ∷ cs) = tokens_from false (token ++ meant c ∷ []) cs
tokens_from false token (c ∷ cs) =
    if c == 126 then tokens_from true token cs
    else (if c == 47 then token ∷ tokens_from false [] cs
    else tokens_from false (token ++ c ∷ []) cs)

-- all tokens, of what was read and of the rest
abbrev pub tokens_with : Reading → List ℕ → List (List ℕ)
tokens_with reading rest = reading.tokens ++ tokens_from reading.escape reading.token rest

-- the token is this index in decimal, or none of 64 bits
abbrev pub IsIndex : List ℕ → Option ℕ → Type 0
IsIndex token (Some n) = token ≡ decimal n
IsIndex token None = (n : ℕ) → n < 2 ^ 64 → token ≡ decimal n → ⊥
