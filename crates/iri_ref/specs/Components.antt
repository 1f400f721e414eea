-- The five components of a URI or IRI reference, and how they make a text again.
use Rattle.std.specs.Prelude.{ℕ, ◌+◌, ◌-◌, take, List, [], ◌∷◌, ◌++◌, ◌≡◌, Bool, false, ◌&&◌, ◌==◌, if◌then◌else◌, Option, Some, None, codes, length, drop, option_map, unwrap_or, is_some, is_none, IsTrue}
use Rattle.iri_ref.specs.Characters.{first_forbidden, is_scheme}
use Rattle.iri_ref.specs.declared.places.Span.{Span}
use Rattle.iri_ref.specs.declared.places.Parts.{Parts}

-- the text before the first c; all of it where there is none
abbrev pub before : ℕ → List ℕ → List ℕ
before c [] = []
before c (b ∷ bs) = if b == c then [] else b ∷ before c bs

-- the text after the first c, where there is one
abbrev pub after : ℕ → List ℕ → Option (List ℕ)
after c [] = None
after c (b ∷ bs) = if b == c then Some bs else after c bs

-- the text from the first c on; nothing where there is none
abbrev pub from : ℕ → List ℕ → List ℕ
from c [] = []
from c (b ∷ bs) = if b == c then b ∷ bs else from c bs

-- What a reference is made of. Each component is without its mark (`:`, `//`, `?`, `#`), and one
-- that is empty differs from one that is not there. -- RFC 3986, 3 and 5.3
pub record Components : Type 0 where
  pub scheme : Option (List ℕ)
  pub authority : Option (List ℕ)
  pub path : List ℕ
  pub query : Option (List ℕ)
  pub fragment : Option (List ℕ)

-- A scheme stands before the first `:`. Where that is no scheme, there is none. -- RFC 3986, 3.1
abbrev pub has_scheme : List ℕ → Bool
has_scheme text = is_some (after 58 text) && is_scheme (before 58 text)

-- the text without its scheme: authority, path, query and fragment, with their marks
abbrev pub relative_part : List ℕ → List ℕ
relative_part text = if has_scheme text then unwrap_or (after 58 text) [] else text

-- the text without query and fragment, which begin at the first `?` and `#`. -- RFC 3986, 3.4, 3.5
abbrev pub hierarchy : List ℕ → List ℕ
hierarchy text = before 63 (before 35 text)

-- An authority follows `//` and ends before the next `/`. -- RFC 3986, 3.2
abbrev pub has_authority : List ℕ → Bool
has_authority [] = false
has_authority (a ∷ []) = false
has_authority (a ∷ b ∷ rest) = (a == 47) && (b == 47)

-- the authority, where there is one, and the path behind it
abbrev pub authority_of : List ℕ → Option (List ℕ)
authority_of text = if has_authority text then Some (before 47 (drop 2 text)) else None

abbrev pub path_after_authority : List ℕ → List ℕ
path_after_authority text = if has_authority text then from 47 (drop 2 text) else text

-- The components of a text, as section 3 and the regular expression of appendix B part it, but that
-- a scheme is one by its grammar. -- RFC 3986, 3 and appendix B
unfoldable pub components : List ℕ → Components
components text = record {
  scheme = if has_scheme text then Some (before 58 text) else None;
  authority = authority_of (hierarchy (relative_part text));
  path = path_after_authority (hierarchy (relative_part text));
  query = after 63 (before 35 (relative_part text));
  fragment = after 35 (relative_part text);
}

-- a component after its mark, or nothing
abbrev pub with_mark : List ℕ → Option (List ℕ) → List ℕ
with_mark mark None = []
with_mark mark (Some text) = mark ++ text

-- a scheme and its colon, or nothing
abbrev pub with_colon : Option (List ℕ) → List ℕ
with_colon None = []
with_colon (Some text) = text ++ codes ":"

-- the text that the components make. -- RFC 3986, 5.3
unfoldable pub recompose : Components → List ℕ
recompose c =
    with_colon c.scheme ++ with_mark (codes "//") c.authority ++ c.path
    ++ with_mark (codes "?") c.query ++ with_mark (codes "#") c.fragment

-- how many bytes a component and its mark of n bytes take up
abbrev pub length_with : ℕ → Option (List ℕ) → ℕ
length_with n None = 0
length_with n (Some text) = n + length text

-- where a component stands whose mark, of n bytes, stands at the byte `at`
abbrev pub span_after : ℕ → ℕ → List ℕ → Span
span_after at n text = record { from = at + n; to = at + n + length text }

-- where each component stands in the text that they make
unfoldable pub spans : Components → Parts
spans c =
    let path_at = length_with 1 c.scheme + length_with 2 c.authority in
    let query_at = path_at + length c.path in
    let fragment_at = query_at + length_with 1 c.query in
    record {
      scheme = option_map (span_after 0 0) c.scheme;
      authority = option_map (span_after (length_with 1 c.scheme) 2) c.authority;
      path = span_after path_at 0 c.path;
      query = option_map (span_after query_at 1) c.query;
      fragment = option_map (span_after fragment_at 1) c.fragment;
    }

-- an IRI with a scheme: the base of a resolution is one. -- RFC 3986, 5.1
abbrev pub IsAbsolute : List ℕ → Type 0
IsAbsolute text = IsTrue (has_scheme text) × (first_forbidden text ≡ None)

-- the test of it
abbrev pub is_absolute : List ℕ → Bool
is_absolute text = has_scheme text && is_none (first_forbidden text)

-- the bytes of a span
abbrev pub cut_out : List ℕ → Span → List ℕ
cut_out text span = take (span.to - span.from) (drop span.from text)

-- the components that spans cut out of a text
unfoldable pub components_at : List ℕ → Parts → Components
components_at text p = record {
  scheme = option_map (cut_out text) p.scheme;
  authority = option_map (cut_out text) p.authority;
  path = cut_out text p.path;
  query = option_map (cut_out text) p.query;
  fragment = option_map (cut_out text) p.fragment;
}

-- The texts before and after the first colon that is not the first character, where there is one:
-- the prefix and the suffix of a compact IRI, or the scheme of an IRI and what follows it.
-- JSON-LD 1.1 API, 5.2.2
abbrev pub around_colon : List ℕ → Option (List ℕ × List ℕ)
around_colon [] = None
around_colon (b ∷ bs) = option_map (λ suffix. (b ∷ before 58 bs, suffix)) (after 58 bs)
