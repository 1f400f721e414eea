-- The lines of a dataset in groups: each with the marks of its statement. Data Integrity ECDSA
-- Cryptosuites 1.0, canonicalizeAndGroup.
use Rattle.std.specs.Prelude.{◌≡◌, ℕ, List, true, not, Contains, filter, map}
use Rattle.base_types.specs.Order.{each_next, is_upto}
use Rattle.base_types.specs.Sets.{AllDiffer}
use Rattle.nquads.specs.Terms.{Blank, Statement}
use Rattle.nquads.specs.Lines.{line}
use Rattle.stmt_groups.specs.declared.grouping.Line.{Line}
use Rattle.stmt_groups.specs.Datasets.{LabelledDataset}
use Rattle.stmt_groups.specs.Parts.{IsMarked, Parts}

-- the dataset of these statements under these labels
abbrev pub under : (Blank → List ℕ) → List Statement → LabelledDataset
under label q = record { statements = q; label = label }

-- The line is that of the statement under the labels, and its marks say what the statement is.
pub record IsLineOf (label : Blank → List ℕ) (p : Parts Statement) (s : Statement) (l : Line)
    : Type 0 where
  pub text : l.text ≡ line label s
  pub says : IsMarked p s l.mandatory l.chosen

-- The lines of the whole, each with its marks: each line is that of a statement, each statement has
-- one, they are in code-point order, and no line stands there twice.
pub record AreGroups (label : Blank → List ℕ) (p : Parts Statement) (lines : List Line)
    : Type 0 where
  pub each : (l : Line) → Contains lines l
      → (s : Statement) × Contains p.whole s × IsLineOf label p s l
  pub every : (s : Statement) → Contains p.whole s
      → (l : Line) × Contains lines l × IsLineOf label p s l
  pub in_order : each_next (λ (k l : Line). is_upto k.text l.text) lines ≡ true
  pub once : AllDiffer lines

-- the texts of lines
abbrev pub texts_of : List Line → List (List ℕ)
texts_of lines = map (λ (l : Line). l.text) lines

-- the texts of those that are mandatory
abbrev pub mandatory_texts : List Line → List (List ℕ)
mandatory_texts lines = texts_of (filter (λ (l : Line). l.mandatory) lines)

-- the texts of all others
abbrev pub other_texts : List Line → List (List ℕ)
other_texts lines = texts_of (filter (λ (l : Line). not l.mandatory) lines)

-- the texts of those that are chosen
abbrev pub chosen_texts : List Line → List (List ℕ)
chosen_texts lines = texts_of (filter (λ (l : Line). l.chosen) lines)
