-- What the rules of terms and IRIs ask of a text.
use Rattle.std.specs.Prelude.{ℕ, ◌-◌, List, Bool, ◌&&◌, ◌||◌, ◌==◌, is_none, codes, length, drop, take, slice_index}
use Rattle.std.specs.List.{list_any, starts_with}
use Rattle.std.specs.Str.{bytes_eq}
pub use Rattle.ld_words.specs.Spellings.{keyword_text, keyword_of, has_keyword_form, is_empty}

-- Whether a text has the form of a keyword and is none: such a text is read as nothing.
-- JSON-LD 1.1 API, 5.2.2, step 2
abbrev pub looks_like_keyword : List ℕ → Bool
looks_like_keyword text = has_keyword_form text && is_none (keyword_of text)

-- ---- bytes of a text

-- whether this byte stands in the text
abbrev pub has_byte : ℕ → List ℕ → Bool
has_byte byte text = list_any (λ b. b == byte) text

-- whether the text has a colon or a slash
abbrev pub has_colon_or_slash : List ℕ → Bool
has_colon_or_slash text = has_byte 58 text || has_byte 47 text

-- whether a colon stands in the text that is neither its first nor its last character.
-- JSON-LD 1.1 API, 4.2.2, step 14.2.4
abbrev pub has_inner_colon : List ℕ → Bool
has_inner_colon text = has_byte 58 (take (length text - 2) (drop 1 text))

-- whether the text begins with `//`
abbrev pub begins_with_slashes : List ℕ → Bool
begins_with_slashes text = starts_with ◌==◌ text (codes "//")

-- one of `: / ? # [ ] @`. -- RFC 3986, 2.2, gen-delims
abbrev pub is_delimiter : ℕ → Bool
is_delimiter c =
    (c == 58) || (c == 47) || (c == 63) || (c == 35) || (c == 91) || (c == 93) || (c == 64)

-- whether the last character of the text is one of these
abbrev pub ends_with_delimiter : List ℕ → Bool
ends_with_delimiter text = is_delimiter (slice_index text (length text - 1))

-- a base direction. -- JSON-LD 1.1, 4.2.4.1
abbrev pub is_direction : List ℕ → Bool
is_direction text = bytes_eq text (codes "ltr") || bytes_eq text (codes "rtl")
