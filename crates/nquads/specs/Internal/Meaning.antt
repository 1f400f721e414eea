-- What a text means that is written with escapes, and which texts may be read, as functions.
use denote.Ref.{Bor}
use Rattle.std.specs.Prelude.{◌≡◌, drop, ◌==◌, ◌||◌, ◌&&◌, ◌-◌, ℕ, zero, suc, List, [], ◌∷◌, ◌++◌, Bool, true, false, not, Option, Some, None, nat_le, length, take, is_none, slice_index, encode_utf8, if◌then◌else◌, option_map, option_and_then}
use Rattle.std.specs.List.{list_all}
use lib.Utf8.{scalar}
use Rattle.iri_ref.specs.Components.{has_scheme}
use Rattle.iri_ref.specs.Characters.{first_forbidden}
use Rattle.nquads.specs.Terms.{is_letter, is_digit, is_label_character}
use Rattle.nquads.specs.Escapes.{hex_number, named_escape}

-- the value, where the test passes
abbrev pub only_if : {X : Type 0} → Bool → X → Option X
only_if test x = if test then Some x else None

-- ---- escapes

-- the number, where it is that of a character
abbrev pub scalar_only : ℕ → Option ℕ
scalar_only k = only_if (scalar k) k

-- the character that the first n bytes number in hexadecimal digits
abbrev pub numbered : ℕ → List ℕ → Option ℕ
numbered n text =
    if nat_le n (length text)
    then option_and_then scalar_only (hex_number 0 (take n text)) else None

-- a character and how many bytes its escape takes
abbrev pub with_size : ℕ → Option ℕ → Option (ℕ × ℕ)
with_size n character = option_map (λ k. (k, n)) character

-- the character of a letter, which literals alone have
abbrev pub letter_escape : Bool → ℕ → Option ℕ
letter_escape quoted c = if quoted then named_escape c else None

-- the escape that begins behind a backslash: its character, and how many bytes it takes there
abbrev pub escape_in : Bool → List ℕ → Option (ℕ × ℕ)
escape_in quoted [] = None
escape_in quoted (c ∷ cs) =
    if c == 117 then with_size 5 (numbered 4 cs)
    else (if c == 85 then with_size 9 (numbered 8 cs)
    else with_size 1 (letter_escape quoted c))

-- the text that is meant by all but the first n bytes
abbrev pub meant_past : Bool → ℕ → List ℕ → Option (List ℕ)
meant_past quoted n [] = Some []
meant_past quoted (suc n) (c ∷ cs) = meant_past quoted n cs
meant_past quoted zero (c ∷ cs) =
    if c == 92 then option_and_then
    (λ e. option_map (λ text. encode_utf8 e.0 ++ text) (meant_past quoted e.1 cs))
    (escape_in quoted cs)
    else (if c == 34 then None
    else option_map (λ text. c ∷ text) (meant_past quoted zero cs))

-- the text that is meant by what stands between quotes, or between angle brackets
abbrev pub meant : Bool → List ℕ → Option (List ℕ)
meant quoted written = meant_past quoted 0 written

-- a character and what follows it, as the code gives them
abbrev pub seen_character : ℕ × Bor (List ℕ) → ℕ × List ℕ
seen_character p = (p.0, p.1.now)

-- the character of an escape that begins the text, and what follows the escape
abbrev pub behind_escape : List ℕ → ℕ × ℕ → ℕ × List ℕ
behind_escape text e = (e.0, drop e.1 text)

-- the same, where the escape takes n bytes
abbrev pub behind : ℕ → List ℕ → ℕ → ℕ × List ℕ
behind n text k = (k, drop n text)

-- the text means a character, and what follows means the rest; or nothing is meant
abbrev pub MeansFirst : Bool → List ℕ → Option (ℕ × Bor (List ℕ)) → Type 0
MeansFirst quoted text None = meant quoted text ≡ None
MeansFirst quoted text (Some p) =
    meant quoted text ≡ option_map (λ more. encode_utf8 p.0 ++ more) (meant quoted p.1.now)

-- ---- texts that may be read

-- U+FFFE or U+FFFF stands first
abbrev pub begins_noncharacter : List ℕ → Bool
begins_noncharacter [] = false
begins_noncharacter (a ∷ []) = false
begins_noncharacter (a ∷ b ∷ []) = false
begins_noncharacter (a ∷ b ∷ c ∷ rest) = (a == 239) && ((b == 191) && ((c == 190) || (c == 191)))

-- U+FFFE or U+FFFF stands in the text
abbrev pub holds_noncharacter : List ℕ → Bool
holds_noncharacter [] = false
holds_noncharacter (c ∷ cs) = begins_noncharacter (c ∷ cs) || holds_noncharacter cs

-- an absolute IRI
abbrev pub is_iri : List ℕ → Bool
is_iri text =
    has_scheme text && (is_none (first_forbidden text) && not (holds_noncharacter text))

-- a character of a language, in the first group or in a later one
abbrev pub is_group_character : Bool → ℕ → Bool
is_group_character first c = is_letter c || (not first && is_digit c)

-- the rest of a language, in its first group or a later one, of which something stood before or
-- nothing
abbrev pub language_rest : Bool → Bool → List ℕ → Bool
language_rest first begun [] = begun
language_rest first begun (c ∷ cs) =
    if c == 45 then begun && language_rest false false cs
    else (is_group_character first c && language_rest first true cs)

-- a language by its grammar
abbrev pub is_language : List ℕ → Bool
is_language text = language_rest true false text

-- a hyphen or a dot
abbrev pub is_mark : ℕ → Bool
is_mark c = (c == 45) || (c == 46)

-- a label by its grammar, in characters that may be read
abbrev pub is_label : List ℕ → Bool
is_label text =
    not (length text == 0)
    && (not (is_mark (slice_index text 0))
    && (not (slice_index text (length text - 1) == 46)
    && (list_all is_label_character text && not (holds_noncharacter text))))
