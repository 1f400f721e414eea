-- Which characters an IRI holds, and what a scheme is.
use Rattle.std.specs.Prelude.{ℕ, List, Bool, ◌&&◌, ◌||◌, ◌==◌, nat_le, Option, position, slice_index}
use Rattle.std.specs.List.{list_all}

-- A byte that no IRI holds: U+0020 and below, < > " { } | \ ^ and the backquote.
-- RDF 1.1 N-Quads, 4, IRIREF
abbrev pub is_forbidden : ℕ → Bool
is_forbidden c =
    nat_le c 32 || (c == 60) || (c == 62) || (c == 34) || (c == 123) || (c == 125) || (c == 124)
    || (c == 92) || (c == 94) || (c == 96)

-- the place of the first byte that is forbidden in an IRI, where there is one
abbrev pub first_forbidden : List ℕ → Option ℕ
first_forbidden text = position is_forbidden text

-- ALPHA. -- RFC 3986, appendix A
abbrev pub is_letter : ℕ → Bool
is_letter c = (nat_le 65 c && nat_le c 90) || (nat_le 97 c && nat_le c 122)

-- ALPHA, DIGIT, `+`, `-` or `.`: what stands in a scheme. -- RFC 3986, 3.1
abbrev pub is_scheme_character : ℕ → Bool
is_scheme_character c =
    is_letter c || (nat_le 48 c && nat_le c 57) || (c == 43) || (c == 45) || (c == 46)

-- A scheme begins with a letter and has only such characters. -- RFC 3986, 3.1
abbrev pub is_scheme : List ℕ → Bool
is_scheme text = is_letter (slice_index text 0) && list_all is_scheme_character text
