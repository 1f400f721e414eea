-- A text says one dataset.
use Rattle.std.proofs.Common.{ℕ, List, Contains, Some, None, subst, inl, inr}
use Rattle.std.proofs.lemmas.Option.{none-some, same_Some}
use Rattle.base_types.specs.Sets.{SameElements}
use Rattle.nquads.specs.Terms.{Statement}
use Rattle.nquads.specs.Reading.{StandsInText, SaysOneOf, SaysDataset, Says}
use Rattle.nquads.proofs.WholeLines.{says_one}

-- a line that says a statement says one of the dataset
pub said_in : (q : List Statement) (line : List ℕ) (s : Statement) → Says line (Some s) → SaysOneOf q line → Contains q s
said_in q line s a o =
    elim o [
      | inl n ↦ absurd (none-some s (says_one line None (Some s) n a))
      | inr t ↦ subst (Contains q) (same_Some t.0 s (says_one line (Some t.0) (Some s) t.2 a)) t.1
    ]

-- a statement that stands in the text is one of the dataset
pub stands_in : (bytes : List ℕ) (q : List Statement) (s : Statement) → SaysDataset bytes q → StandsInText bytes s → Contains q s
stands_in bytes q s d t = said_in q t.line s t.says (d.lines t.at t.line t.stands)

-- a text says one dataset
pub dataset_once : (bytes : List ℕ) (p q : List Statement) → SaysDataset bytes p → SaysDataset bytes q → SameElements p q
dataset_once bytes p q d e = λ s. ((λ m. stands_in bytes q s e (d.statements s m)), (λ m. stands_in bytes p s d (e.statements s m)))
