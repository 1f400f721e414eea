-- A store of texts: the list of them, in the order in which they were first kept. The place of a
-- text, counted from 0, is its number.
use Rattle.std.specs.Prelude.{◌≡◌, ◌==◌, ◌++◌, ◌∷◌, [], ℕ, List, Bool, Some, length, ◌≤◌, get_or, slice_get, codes, if◌then◌else◌}
use Rattle.std.specs.List.{list_any, starts_with}
use Rattle.std.specs.Str.{bytes_eq}
use Rattle.base_types.specs.Sets.{AllDiffer}
use Rattle.term_store.specs.declared.store.TermId.{TermId}

-- the text of a number
abbrev pub text_at : List (List ℕ) → TermId → List ℕ
text_at texts id = get_or texts id.index []

-- the texts with one more, which goes last unless it is there
abbrev pub with_text : List (List ℕ) → List ℕ → List (List ℕ)
with_text texts text = if list_any (bytes_eq text) texts then texts else texts ++ text ∷ []

-- what is true of every store: no two texts are equal, and each has a number of 32 bits
pub record IsStore (texts : List (List ℕ)) : Type 0 where
  pub differ : AllDiffer texts
  pub few : length texts ≤ 4294967295

-- the store only grew: each number that it gave keeps its text
pub record Grows (old new : List (List ℕ)) : Type 0 where
  pub rest : List (List ℕ)
  pub is : new ≡ old ++ rest

-- the text is kept once, under the number id
pub record Interns (old : List (List ℕ)) (text : List ℕ) (id : ℕ) (new : List (List ℕ))
    : Type 0 where
  pub at : slice_get new id ≡ Some text
  pub texts : new ≡ with_text old text
  pub differ : AllDiffer new

-- the test whether a text begins with `_:`
abbrev pub begins_blank : List ℕ → Bool
begins_blank text = starts_with ◌==◌ text (codes "_:")

-- the text is `_:` and what follows. RDF 1.1 N-Quads, 4, BLANK_NODE_LABEL
abbrev pub BeginsBlank : List ℕ → Type 0
BeginsBlank text = (rest : List ℕ) × (text ≡ codes "_:" ++ rest)
