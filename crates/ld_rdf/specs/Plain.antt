-- The plain forms of IRIs and terms that a flat document uses, and the texts that are not carried.
use Rattle.std.specs.Prelude.{◌≡◌, ℕ, List, [], ◌∷◌, Bool, true, false, ◌&&◌, ◌||◌, not, ◌==◌, nat_eq, codes, length, slice_index}
use Rattle.std.specs.List.{list_all, starts_with}
use Rattle.nquads.specs.Terms.{is_letter, is_digit}

-- an ASCII letter or digit, or one of `- . _ / # :`
abbrev pub is_iri_character : ℕ → Bool
is_iri_character c =
    is_letter c || is_digit c || (c == 45) || (c == 46) || (c == 95) || (c == 47) || (c == 35)
    || (c == 58)

-- A plain IRI begins with `https://` and has only such characters after that. It is absolute, so it
-- is read as it is written. RFC 3986, 4.3
abbrev pub is_plain_iri : List ℕ → Bool
is_plain_iri text = starts_with nat_eq text (codes "https://") && list_all is_iri_character text

abbrev pub IsPlainIri : List ℕ → Type 0
IsPlainIri text = is_plain_iri text ≡ true

-- not a colon and not a slash
abbrev pub is_term_character : ℕ → Bool
is_term_character c = not (c == 58) && not (c == 47)

-- A plain term is not empty, does not begin with `@`, and has neither `:` nor `/`, so it is no
-- keyword, no compact IRI and no relative one. JSON-LD 1.1, 4.1 and 4.1.5
abbrev pub is_plain_term : List ℕ → Bool
is_plain_term text =
    not (length text == 0) && (not (slice_index text 0 == 64) && list_all is_term_character text)

abbrev pub IsPlainTerm : List ℕ → Type 0
IsPlainTerm text = is_plain_term text ≡ true

-- whether U+FFFE or U+FFFF stands first, in UTF-8
abbrev pub is_noncharacter_first : List ℕ → Bool
is_noncharacter_first text =
    (slice_index text 0 == 239) && (slice_index text 1 == 191)
    && ((slice_index text 2 == 190) || (slice_index text 2 == 191))

-- whether the text holds U+FFFE or U+FFFF. -- The Unicode Standard, 23.7
abbrev pub has_noncharacter : List ℕ → Bool
has_noncharacter [] = false
has_noncharacter (c ∷ cs) = is_noncharacter_first (c ∷ cs) || has_noncharacter cs

abbrev pub HasNoncharacter : List ℕ → Type 0
HasNoncharacter text = has_noncharacter text ≡ true
