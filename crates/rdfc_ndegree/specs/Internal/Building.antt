-- How a table is built of the numbers of a store.
use Rattle.std.specs.Prelude.{◌==◌, ◌||◌, ℕ, zero, suc, List, [], ◌∷◌, ◌++◌, map, Option, Some, None, if◌then◌else◌}
use Rattle.std.specs.Option.{option_eq, option_map, option_and_then, is_some}
use Rattle.digest_mac.specs.Digests.{digits}
use Rattle.digest_mac.specs.declared.hash.Hash.{Hash}
use Rattle.term_store.specs.declared.store.TermId.{TermId}
use Rattle.term_store.specs.declared.statements.Quad.{Quad}
use Rattle.nquads.specs.declared.hashes.BlankHash.{BlankHash}
use Rattle.rdfc_ndegree.specs.declared.building.Parts.{Parts}
use Rattle.rdfc_ndegree.specs.declared.table.Position.{Position}
use Rattle.rdfc_ndegree.specs.declared.table.Position.TheVariants as position
use Rattle.rdfc_ndegree.specs.declared.table.StoredRelated.{StoredRelated}
use Rattle.rdfc_ndegree.specs.declared.table.StoredRow.{StoredRow}

-- the place of a number among numbers, from 0
abbrev pub number_among : List ℕ → ℕ → Option ℕ
number_among [] n = None
number_among (m ∷ ms) n = if n == m then Some 0 else option_map suc (number_among ms n)

-- the place of a term's number
abbrev pub place_among : List ℕ → TermId → Option ℕ
place_among numbers id = number_among numbers id.index

-- the numbers of the blank nodes of the rows
abbrev pub numbers_of : List StoredRow → List ℕ
numbers_of rows = map (λ (r : StoredRow). r.blank.index) rows

-- a row without related nodes
abbrev pub new_row : BlankHash → StoredRow
new_row h = record { blank = h.blank; first = h.hash; related = [] }

-- the rows, with one for this blank node at the end where it has none
abbrev pub with_row : List StoredRow → BlankHash → List StoredRow
with_row rows h =
    if is_some (place_among (numbers_of rows) h.blank) then rows else rows ++ new_row h ∷ []

-- the rows with each of these, one after another
abbrev pub with_rows : List StoredRow → List BlankHash → List StoredRow
with_rows rows [] = rows
with_rows rows (h ∷ hs) = with_rows (with_row rows h) hs

-- a node that stands in no statement, with the digest of nothing
abbrev pub unused_node : Hash → TermId → BlankHash
unused_node hash id = record { blank = id; hash = digits hash [] }

-- the predicate of a statement, and the places of its parts that are nodes
abbrev pub parts_by_number : List ℕ → Quad → Parts
parts_by_number numbers quad = record {
  predicate = quad.predicate;
  subject = place_among numbers quad.subject;
  object = place_among numbers quad.object;
  graph = option_and_then (place_among numbers) quad.graph;
}

-- a related node
abbrev pub related_node : Position → TermId → ℕ → StoredRelated
related_node position predicate node =
    record { position = position; predicate = predicate; node = node }

-- a node at one position of a statement, as the related node of another
abbrev pub related_nodes_at : ℕ → Position → TermId → Option ℕ → List StoredRelated
related_nodes_at node position predicate None = []
related_nodes_at node position predicate (Some other) =
    if other == node then [] else related_node position predicate other ∷ []

-- the related nodes that a statement gives to a node of it
abbrev pub related_nodes : ℕ → Parts → List StoredRelated
related_nodes node parts =
    related_nodes_at node position.Subject parts.predicate parts.subject
    ++ (related_nodes_at node position.Object parts.predicate parts.object
    ++ related_nodes_at node position.Graph parts.predicate parts.graph)

-- the row with more related nodes
abbrev pub with_related : StoredRow → List StoredRelated → StoredRow
with_related row rs = record { blank = row.blank; first = row.first; related = row.related ++ rs }

-- the rows, of which one has more related nodes
abbrev pub relate_row : List StoredRow → ℕ → List StoredRelated → List StoredRow
relate_row [] node rs = []
relate_row (row ∷ rows) zero rs = with_related row rs ∷ rows
relate_row (row ∷ rows) (suc node) rs = row ∷ relate_row rows node rs

-- the rows after one part of a statement, where it is a node, took the statement
abbrev pub relate_node : List StoredRow → Option ℕ → Parts → List StoredRow
relate_node rows None parts = rows
relate_node rows (Some node) parts = relate_row rows node (related_nodes node parts)

-- after the object took it, where it is not the subject
abbrev pub relate_object : List StoredRow → Parts → List StoredRow
relate_object rows parts =
    if option_eq ◌==◌ parts.subject parts.object then rows else relate_node rows parts.object parts

-- after the graph took it, where it is neither subject nor object
abbrev pub relate_graph : List StoredRow → Parts → List StoredRow
relate_graph rows parts =
    if option_eq ◌==◌ parts.subject parts.graph || option_eq ◌==◌ parts.object parts.graph then rows
    else relate_node rows parts.graph parts

-- each node of the statement takes it once
abbrev pub relate_parts : List StoredRow → Parts → List StoredRow
relate_parts rows parts =
    relate_graph (relate_object (relate_node rows parts.subject parts) parts) parts

-- the rows after all statements
abbrev pub relate_all : List StoredRow → List Parts → List StoredRow
relate_all rows [] = rows
relate_all rows (p ∷ ps) = relate_all (relate_parts rows p) ps
