-- Canonical lines and the text that they make. RDF Canonicalization, the canonical form of N-Quads.
use Rattle.std.specs.Prelude.{◌≡◌, ℕ, List, [], ◌++◌, map, codes, Contains, Option, Some, None}
use Rattle.std.specs.List.{concat}
use Rattle.base_types.specs.Order.{sorted_set}
use Rattle.nquads.specs.Terms.{Blank, by_label, Term, iri, literal, blank, Statement, IsLabel}
use Rattle.nquads.specs.Renaming.{rename, blanks_of, StandsIn}
use Rattle.nquads.specs.Spelling.{iri_text, literal_text}

-- a term in a line: a blank node is `_:` and its label
abbrev pub term_text : (Blank → List ℕ) → Term → List ℕ
term_text label (iri text) = iri_text text
term_text label (literal text datatype language) = literal_text text datatype language
term_text label (blank b) = codes "_:" ++ label b

-- the graph and a space, or nothing for the default graph
abbrev pub graph_text : (Blank → List ℕ) → Option Term → List ℕ
graph_text label None = []
graph_text label (Some g) = term_text label g ++ codes " "

-- Subject, predicate and object with a space behind each, the graph with its own, a dot and LF.
abbrev pub line_text : List ℕ → List ℕ → List ℕ → List ℕ → List ℕ
line_text s p o g = s ++ codes " " ++ p ++ codes " " ++ o ++ codes " " ++ g ++ codes ".\n"

-- The canonical line of a statement, in which each blank node has its label.
abbrev pub line : (Blank → List ℕ) → Statement → List ℕ
line label s =
    line_text (term_text label s.subject) (iri_text s.predicate) (term_text label s.object)
    (graph_text label s.graph)

-- the lines of a dataset in code-point order, each once
abbrev pub canonical_lines : (Blank → List ℕ) → List Statement → List (List ℕ)
canonical_lines label q = sorted_set (map (line label) q)

-- The canonical text of a dataset under labels for its blank nodes.
abbrev pub canonical_text : (Blank → List ℕ) → List Statement → List ℕ
canonical_text label q = concat (canonical_lines label q)

-- a text that ends with LF and holds no other
pub record IsLine (text : List ℕ) : Type 0 where
  pub front : List ℕ
  pub is : text ≡ front ++ codes "\n"
  pub whole : Contains front 10 → ⊥

-- the statement with each blank node named by its label
abbrev pub with_labels : (Blank → List ℕ) → Statement → Statement
with_labels label s = rename (λ b. record { kind = by_label; name = label b }) s

-- each blank node of the statement has a label in its grammar
abbrev pub HasLabels : (Blank → List ℕ) → Statement → Type 0
HasLabels label s = (b : Blank) → Contains (blanks_of s) b → IsLabel (label b)

-- no two blank nodes of the dataset have one label
abbrev pub LabelsDiffer : (Blank → List ℕ) → List Statement → Type 0
LabelsDiffer label q = (a b : Blank) → StandsIn q a → StandsIn q b → label a ≡ label b → a ≡ b
