-- What labelling looks at in a dataset: its blank nodes, and where each stands beside others. It is
-- written over any kind of node that can be compared, so that one definition serves the blank nodes
-- of a dataset and the numbers by which the program keeps them. RDF Canonicalization, 4.3,
-- canonicalization state, and 4.4.3, steps 1 and 2.
use Rattle.std.specs.Prelude.{ℕ, List, Bool}
use Rattle.rdfc_ndegree.specs.declared.table.Position.{Position}

-- One occurrence of a related blank node in a statement of a node: where it stands, the statement's
-- predicate in angle brackets, and the blank node.
pub record Occurrence (B : Type 0) : Type 0 where
  pub position : Position
  pub predicate : List ℕ
  pub blank : B

-- The blank nodes of a dataset, each once; whether two are one; the digest of a text, in lower-case
-- hexadecimal digits; the first-degree hash of a node; and its related blank nodes, once for each
-- occurrence.
pub record Nodes (B : Type 0) : Type 0 where
  pub all : List B
  pub same : B → B → Bool
  pub digest : List ℕ → List ℕ
  pub first : B → List ℕ
  pub related : B → List (Occurrence B)
