-- The blank nodes of a statement of a store, by their numbers.
use Rattle.std.specs.Prelude.{ℕ, List, Contains, IfSome}
use Rattle.term_store.specs.Store.{text_at, BeginsBlank}
use Rattle.term_store.specs.declared.store.TermId.{TermId}
use Rattle.term_store.specs.declared.statements.Quad.{Quad}

-- where the number stands for a blank node, it is one of these
abbrev pub IsNamed : List (List ℕ) → List TermId → TermId → Type 0
IsNamed texts ids id = BeginsBlank (text_at texts id) → Contains ids id

-- each blank node of the statement is one of these numbers
pub record AreNamed (texts : List (List ℕ)) (ids : List TermId) (quad : Quad) : Type 0 where
  pub subject : IsNamed texts ids quad.subject
  pub object : IsNamed texts ids quad.object
  pub graph : IfSome quad.graph (IsNamed texts ids)
