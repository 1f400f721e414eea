-- The table by which the program knows the nodes: each by its number, which is its row.
use Rattle.std.specs.Prelude.{◌<◌, ◌==◌, ℕ, zero, suc, List, [], ◌++◌, ◌∷◌, map, length, All, Option, Some, None, slice_get}
use Rattle.digest_mac.specs.Digests.{digits}
use Rattle.digest_mac.specs.declared.hash.Hash.{Hash}
use Rattle.term_store.specs.Store.{text_at}
use Rattle.rdfc_ndegree.specs.Nodes.{Occurrence, Nodes}
use Rattle.rdfc_ndegree.specs.Groups.{Group}
use Rattle.rdfc_ndegree.specs.Datasets.{occurrence}
use Rattle.rdfc_ndegree.specs.declared.table.Position.{Position}
use Rattle.rdfc_ndegree.specs.declared.table.StoredRelated.{StoredRelated}
use Rattle.rdfc_ndegree.specs.declared.table.StoredRow.{StoredRow}
use Rattle.rdfc_ndegree.specs.declared.related.NodeGroup.{NodeGroup}

-- One occurrence of a related node: where it stands, the statement's predicate in angle brackets,
-- and the number of the node.
pub record Related : Type 0 where
  pub position : Position
  pub predicate : List ℕ
  pub node : ℕ

-- A node: the text by which statements name it, its first-degree hash, and its related nodes, once
-- for each occurrence.
pub record NodeRow : Type 0 where
  pub blank : List ℕ
  pub first : List ℕ
  pub related : List Related

-- what a row keeps by numbers, seen through the texts of the store
abbrev pub related_texts : List (List ℕ) → StoredRelated → Related
related_texts texts r =
    record { position = r.position; predicate = text_at texts r.predicate; node = r.node }

abbrev pub row_texts : List (List ℕ) → StoredRow → NodeRow
row_texts texts row = record {
  blank = text_at texts row.blank;
  first = row.first;
  related = map (related_texts texts) row.related;
}

-- the predicate of each related node is a number of the store
abbrev pub AreRowsKnown : List (List ℕ) → List StoredRow → Type 0
AreRowsKnown texts rows =
    All (λ (row : StoredRow).
    All (λ (r : StoredRelated). r.predicate.index < length texts) row.related) rows

-- the numbers from 0 up to n
abbrev pub numbers_below : ℕ → List ℕ
numbers_below zero = []
numbers_below (suc n) = numbers_below n ++ n ∷ []

-- a related node of a row, as an occurrence of its number
abbrev pub occurrence_of : Related → Occurrence ℕ
occurrence_of r = occurrence r.position r.predicate r.node

-- the first-degree hash in a row, and its related nodes
abbrev pub first_in : Option NodeRow → List ℕ
first_in None = []
first_in (Some row) = row.first

abbrev pub related_in_row : Option NodeRow → List (Occurrence ℕ)
related_in_row None = []
related_in_row (Some row) = map occurrence_of row.related

-- The nodes of a table: the numbers of its rows.
unfoldable pub table_nodes : Hash → List NodeRow → Nodes ℕ
table_nodes hash rows = record {
  all = numbers_below (length rows);
  same = ◌==◌;
  digest = digits hash;
  first = λ n. first_in (slice_get rows n);
  related = λ n. related_in_row (slice_get rows n);
}

-- each related node is a row of the table
abbrev pub IsClosed : List NodeRow → Type 0
IsClosed rows =
    All (λ (row : NodeRow). All (λ (r : Related). r.node < length rows) row.related) rows

-- the texts of the rows
abbrev pub names_of : List NodeRow → List (List ℕ)
names_of rows = map (λ (r : NodeRow). r.blank) rows

abbrev pub group_in : NodeGroup → Group ℕ
group_in g = record { hash = g.hash; members = g.members }
