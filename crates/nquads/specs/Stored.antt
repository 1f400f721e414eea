-- Statements and labels by the numbers of a store, seen through the texts that it keeps.
use Rattle.std.specs.Prelude.{◌≡◌, ◌<◌, ◌==◌, ℕ, List, [], ◌∷◌, ◌++◌, All, IfSome, IsSome, Option, Some, None, map, length, option_map, if◌then◌else◌}
use Rattle.term_store.specs.Store.{text_at, BeginsBlank, Grows}
use Rattle.term_store.specs.declared.store.TermId.{TermId}
use Rattle.term_store.specs.declared.statements.Quad.{Quad}
use Rattle.nquads.specs.Texts.{label}
use Rattle.nquads.specs.declared.numbers.Label.{Label}
use Rattle.nquads.specs.declared.labels.TextLabel.{TextLabel}
use Rattle.nquads.specs.declared.quads.TextQuad.{TextQuad}

-- the four spellings of a statement whose parts are numbers of a store
abbrev pub quad_texts : List (List ℕ) → Quad → TextQuad
quad_texts texts quad = record {
  subject = text_at texts quad.subject;
  predicate = text_at texts quad.predicate;
  object = text_at texts quad.object;
  graph = option_map (text_at texts) quad.graph;
}

-- each part of the statement is a number of the store
pub record IsKnown (texts : List (List ℕ)) (quad : Quad) : Type 0 where
  pub subject : quad.subject.index < length texts
  pub predicate : quad.predicate.index < length texts
  pub object : quad.object.index < length texts
  pub graph : IfSome quad.graph (λ g. g.index < length texts)

-- each labelled blank node is a number of the store
abbrev pub AreLabelsKnown : List (List ℕ) → List Label → Type 0
AreLabelsKnown texts labels = All (λ (l : Label). l.blank.index < length texts) labels

-- the labels, each with the text of its blank node
abbrev pub labels_by_text : List (List ℕ) → List Label → List TextLabel
labels_by_text texts labels = map (λ (l : Label). label (text_at texts l.blank) l.text) labels

-- the label `text` of a number
abbrev pub number_label : ℕ → List ℕ → Label
number_label number text = record { blank = record { index = number }; text = text }

-- the label of a number
abbrev pub find_number : List Label → ℕ → Option (List ℕ)
find_number [] number = None
find_number (l ∷ ls) number = if l.blank.index == number then Some l.text else find_number ls number

-- where the number stands for a blank node, it has a label
abbrev pub HasLabel : List (List ℕ) → List Label → TermId → Type 0
HasLabel texts labels id = BeginsBlank (text_at texts id) → IsSome (find_number labels id.index)

-- each blank node of the statement has a label
pub record IsLabelled (texts : List (List ℕ)) (labels : List Label) (quad : Quad) : Type 0 where
  pub subject : HasLabel texts labels quad.subject
  pub object : HasLabel texts labels quad.object
  pub graph : IfSome quad.graph (HasLabel texts labels)

-- The store only grew, the statements of `new` are known in it, and their texts are those of `old`
-- and then `added`.
pub record Adds (before after : List (List ℕ)) (old new : List Quad) (added : List TextQuad)
    : Type 0 where
  pub grows : Grows before after
  pub known : All (IsKnown after) new
  pub texts : map (quad_texts after) new ≡ map (quad_texts before) old ++ added
