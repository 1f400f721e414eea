-- The rows that a table is built with: their related nodes are rows, and their predicates numbers of the store.
use Rattle.std.proofs.Common.{◌≡◌, ◌==◌, ℕ, zero, suc, ◌<◌, List, [], ◌∷◌, ◌++◌, map, length, get_or, refl, sym, ap, ◌∙◌, subst, Bool, true, false, cond, Option, Some, None}
use Rattle.std.specs.Prelude.{All, slice_get}
use Rattle.std.specs.Option.{option_and_then, option_map, is_some}
use Rattle.std.specs.List.{AllByRecursion}
use Rattle.std.proofs.lemmas.List.{length-map}
use Rattle.std.proofs.lemmas.Option.{slice_get-map, slice_get-get_or}
use Rattle.std.proofs.lemmas.List.Elements.{All-head, All-tail, All-from_recursion}
use Rattle.digest_mac.specs.declared.hash.Hash.{Hash}
use Rattle.term_store.specs.Store.{text_at}
use Rattle.term_store.specs.declared.store.TermId.{TermId}
use Rattle.term_store.specs.declared.statements.Quad.{Quad}
use Rattle.nquads.specs.Stored.{IsKnown}
use Rattle.nquads.specs.declared.hashes.BlankHash.{BlankHash}
use Rattle.rdfc_ndegree.specs.declared.table.Position.TheVariants as position
use Rattle.rdfc_ndegree.specs.Datasets.{occurrence}
use Rattle.rdfc_ndegree.specs.Table.{NodeRow, Related, occurrence_of, related_in_row, row_texts, related_texts, AreRowsKnown, IsClosed}
use Rattle.rdfc_ndegree.specs.declared.building.Parts.{Parts}
use Rattle.rdfc_ndegree.specs.declared.table.Position.{Position}
use Rattle.rdfc_ndegree.specs.declared.table.StoredRelated.{StoredRelated}
use Rattle.rdfc_ndegree.specs.declared.table.StoredRow.{StoredRow}
use Rattle.rdfc_ndegree.specs.Internal.Building.{place_among, numbers_of, new_row, with_row, with_rows, unused_node, parts_by_number, related_nodes_at, related_nodes, relate_row, relate_node, relate_object, relate_parts, relate_all}
use Rattle.rdfc_ndegree.proofs.Permutations.{Each-append, Each-weaker}
use Rattle.rdfc_ndegree.proofs.BuildLemmas.{number-below, numbers-all}

-- the text of a number
abbrev pub text_of : List (List ℕ) → ℕ → List ℕ
text_of texts n = get_or texts n []

-- ---- what a row keeps, seen through the store

-- an occurrence of a row as it is kept, with the text of its predicate
pub related-found : (texts : List (List ℕ)) (rows seen : List StoredRow) (node place : ℕ) (row : StoredRow) (r : StoredRelated) → seen ≡ rows → node < length seen → row ≡ get_or seen node row → Some r ≡ slice_get row.related place
    → Some (occurrence r.position (text_at texts r.predicate) r.node) ≡ slice_get (related_in_row (slice_get (map (row_texts texts) rows) node)) place
related-found texts rows seen node place row r same within is at =
    let found : slice_get rows node ≡ Some row = ap (λ rs. slice_get rs node) (sym same) ∙ slice_get-get_or seen node row within ∙ ap Some (sym is) in
    let kept : slice_get (map (row_texts texts) rows) node ≡ Some (row_texts texts row) = slice_get-map (row_texts texts) rows node ∙ ap (option_map (row_texts texts)) found in
    let listed : slice_get (map occurrence_of (map (related_texts texts) row.related)) place ≡ Some (occurrence_of (related_texts texts r)) =
    slice_get-map occurrence_of (map (related_texts texts) row.related) place ∙ ap (option_map occurrence_of) (slice_get-map (related_texts texts) row.related place ∙ ap (option_map (related_texts texts)) (sym at)) in
    sym (ap (λ o. slice_get (related_in_row o) place) kept ∙ listed)

-- ---- related nodes are rows, and their predicates numbers of the store

abbrev Below : ℕ → Option ℕ → Type 0
Below n o = (k : ℕ) → o ≡ Some k → k < n

-- with m texts in the store and n rows
record PartsBelow (m n : ℕ) (p : Parts) : Type 0 where
  predicate : p.predicate.index < m
  subject : Below n p.subject
  object : Below n p.object
  graph : Below n p.graph

abbrev RelatedBelow : ℕ → ℕ → List StoredRelated → Type 0
RelatedBelow m n rs = AllByRecursion (λ (r : StoredRelated). (r.node < n) × (r.predicate.index < m)) rs

abbrev RowsBelow : ℕ → ℕ → List StoredRow → Type 0
RowsBelow m n rows = AllByRecursion (λ (row : StoredRow). RelatedBelow m n row.related) rows

parts-below : (texts : List (List ℕ)) (numbers : List ℕ) (quad : Quad) → IsKnown texts quad → PartsBelow (length texts) (length numbers) (parts_by_number numbers quad)
parts-below texts numbers quad known = record { predicate = known.predicate; subject = number-below numbers quad.subject.index; object = number-below numbers quad.object.index; graph = of_graph quad.graph }
  where
    of_graph : (g : Option TermId) → Below (length numbers) (option_and_then (place_among numbers) g)
    of_graph None k e = absurd (cc)
    of_graph (Some g) k e = number-below numbers g.index k e

links_at-below : (m n at : ℕ) (position : Position) (predicate : TermId) (o : Option ℕ) → predicate.index < m → Below n o → RelatedBelow m n (related_nodes_at at position predicate o)
links_at-below m n at position predicate None known h = tt
links_at-below m n at position predicate (Some k) known h = go (k == at)
  where
    go : (t : Bool) → RelatedBelow m n (cond t [] (record { position = position; predicate = predicate; node = k } ∷ []))
    go true = tt
    go false = ((h k refl, known), tt)

module _ (m n : ℕ) where
  abbrev IsBelow : StoredRelated → Type 0
  IsBelow r = (r.node < n) × (r.predicate.index < m)

  links-below : (at : ℕ) (p : Parts) → PartsBelow m n p → RelatedBelow m n (related_nodes at p)
  links-below at p h =
      Each-append IsBelow (related_nodes_at at position.Subject p.predicate p.subject) (related_nodes_at at position.Object p.predicate p.object ++ related_nodes_at at position.Graph p.predicate p.graph) (links_at-below m n at position.Subject p.predicate p.subject h.predicate h.subject)
      (Each-append IsBelow (related_nodes_at at position.Object p.predicate p.object) (related_nodes_at at position.Graph p.predicate p.graph) (links_at-below m n at position.Object p.predicate p.object h.predicate h.object) (links_at-below m n at position.Graph p.predicate p.graph h.predicate h.graph))

  related_at-below : (rows : List StoredRow) (at : ℕ) (rs : List StoredRelated) → RowsBelow m n rows → RelatedBelow m n rs → RowsBelow m n (relate_row rows at rs)
  related_at-below [] at rs h k = tt
  related_at-below (row ∷ rows) zero rs h k = (Each-append IsBelow row.related rs h.0 k, h.1)
  related_at-below (row ∷ rows) (suc at) rs h k = (h.0, related_at-below rows at rs h.1 k)

  node-below : (rows : List StoredRow) (o : Option ℕ) (p : Parts) → RowsBelow m n rows → PartsBelow m n p → RowsBelow m n (relate_node rows o p)
  node-below rows None p h k = h
  node-below rows (Some at) p h k = related_at-below rows at (related_nodes at p) h (links-below at p k)

  if-below : (t : Bool) (rows : List StoredRow) (o : Option ℕ) (p : Parts) → RowsBelow m n rows → PartsBelow m n p → RowsBelow m n (cond t rows (relate_node rows o p))
  if-below true rows o p h k = h
  if-below false rows o p h k = node-below rows o p h k

  relate-below : (rows : List StoredRow) (p : Parts) → RowsBelow m n rows → PartsBelow m n p → RowsBelow m n (relate_parts rows p)
  relate-below rows p h k =
      let one = relate_node rows p.subject p in
      let two = relate_object one p in
      if-below _ two p.graph p (if-below _ one p.object p (node-below rows p.subject p h k) k) k

  with_row-below : (rows : List StoredRow) (h : BlankHash) → RowsBelow m n rows → RowsBelow m n (with_row rows h)
  with_row-below rows h b = go (is_some (place_among (numbers_of rows) h.blank))
    where
      go : (t : Bool) → RowsBelow m n (cond t rows (rows ++ new_row h ∷ []))
      go true = b
      go false = Each-append (λ (row : StoredRow). RelatedBelow m n row.related) rows (new_row h ∷ []) b (tt, tt)

  with_rows-below : (rows : List StoredRow) (hs : List BlankHash) → RowsBelow m n rows → RowsBelow m n (with_rows rows hs)
  with_rows-below rows [] b = b
  with_rows-below rows (h ∷ hs) b = with_rows-below (with_row rows h) hs (with_row-below rows h b)

  nodes_in : (texts : List (List ℕ)) (rs : List StoredRelated) → RelatedBelow m n rs → AllByRecursion (λ (r : Related). r.node < n) (map (related_texts texts) rs)
  nodes_in texts [] h = tt
  nodes_in texts (r ∷ rs) h = (h.0.0, nodes_in texts rs h.1)

  closed_in : (texts : List (List ℕ)) (rows : List StoredRow) → RowsBelow m n rows → AllByRecursion (λ (row : NodeRow). All (λ (r : Related). r.node < n) row.related) (map (row_texts texts) rows)
  closed_in texts [] h = tt
  closed_in texts (row ∷ rows) h = (All-from_recursion (λ (r : Related). r.node < n) (map (related_texts texts) row.related) (nodes_in texts row.related h.0), closed_in texts rows h.1)

  known_in : (rows : List StoredRow) → RowsBelow m n rows → AllByRecursion (λ (row : StoredRow). All (λ (r : StoredRelated). r.predicate.index < m) row.related) rows
  known_in [] h = tt
  known_in (row ∷ rows) h = (All-from_recursion (λ (r : StoredRelated). r.predicate.index < m) row.related (Each-weaker IsBelow (λ (r : StoredRelated). r.predicate.index < m) (λ r k. k.1) row.related h.0), known_in rows h.1)

all-below : (texts : List (List ℕ)) (numbers : List ℕ) (rows : List StoredRow) (quads : List Quad) → All (IsKnown texts) quads → RowsBelow (length texts) (length numbers) rows → RowsBelow (length texts) (length numbers) (relate_all rows (map (parts_by_number numbers) quads))
all-below texts numbers rows [] known h = h
all-below texts numbers rows (quad ∷ quads) known h =
    all-below texts numbers (relate_parts rows (parts_by_number numbers quad)) quads (All-tail (IsKnown texts) quad quads known)
    (relate-below (length texts) (length numbers) rows (parts_by_number numbers quad) h (parts-below texts numbers quad (All-head (IsKnown texts) quad quads known)))

-- there are as many numbers as rows
pub length-numbers : (rows : List StoredRow) → length (numbers_of rows) ≡ length rows
length-numbers rows = length-map rows (λ (r : StoredRow). r.blank.index)

-- the rows before they have related nodes, and the built rows
abbrev pub bare_rows : Hash → List BlankHash → List TermId → List StoredRow
bare_rows hash firsts others = with_rows (with_rows [] firsts) (map (unused_node hash) others)

abbrev pub built : Hash → List Quad → List BlankHash → List TermId → List StoredRow
built hash quads firsts others = relate_all (bare_rows hash firsts others) (map (parts_by_number (numbers_of (bare_rows hash firsts others))) quads)

-- the rows that the steps of the program give, one after another
pub built-made : (hash : Hash) {start first second last : List StoredRow} {numbers : List ℕ} {slice quads : List Quad} (firsts : List BlankHash) (others : List TermId) → start ≡ [] → first ≡ with_rows start firsts → second ≡ with_rows first (map (unused_node hash) others) → numbers ≡ numbers_of second → slice ≡ quads → last ≡ relate_all second (map (parts_by_number numbers) slice) → last ≡ built hash quads firsts others
built-made hash firsts others none one two numbers_are same last_is =
    let rows = two ∙ ap (λ rows. with_rows rows (map (unused_node hash) others)) (one ∙ ap (λ rows. with_rows rows firsts) none) in
    let numbers = numbers_are ∙ ap numbers_of rows in
    last_is ∙ (λ i. relate_all (rows i) (map (parts_by_number (numbers i)) (same i)))

-- the numbers of the built rows are those of the bare ones
pub built-numbers : (hash : Hash) (quads : List Quad) (firsts : List BlankHash) (others : List TermId) → numbers_of (built hash quads firsts others) ≡ numbers_of (bare_rows hash firsts others)
built-numbers hash quads firsts others = numbers-all (bare_rows hash firsts others) (map (parts_by_number (numbers_of (bare_rows hash firsts others))) quads)

module _ (hash : Hash) (texts : List (List ℕ)) (quads : List Quad) (firsts : List BlankHash) (others : List TermId) (known : All (IsKnown texts) quads) where
  built-below : RowsBelow (length texts) (length (built hash quads firsts others)) (built hash quads firsts others)
  built-below =
      let rows = bare_rows hash firsts others in
      let m = length texts in
      let n = length (numbers_of rows) in
      let long : length (numbers_of (bare_rows hash firsts others)) ≡ length (built hash quads firsts others) = ap length (sym (built-numbers hash quads firsts others)) ∙ length-numbers (built hash quads firsts others) in
      subst (λ n. RowsBelow (length texts) n (built hash quads firsts others)) long
      (all-below texts (numbers_of rows) rows quads known (with_rows-below m n (with_rows [] firsts) (map (unused_node hash) others) (with_rows-below m n [] firsts tt)))

  -- the rows of the table that is built lead to its own rows
  pub built-closed : IsClosed (map (row_texts texts) (built hash quads firsts others))
  built-closed =
      let rows = built hash quads firsts others in
      let n = length (map (row_texts texts) rows) in
      let long : length rows ≡ length (map (row_texts texts) rows) = sym (length-map rows (row_texts texts)) in
      All-from_recursion (λ (row : NodeRow). All (λ (r : Related). r.node < n) row.related) (map (row_texts texts) rows)
      (closed_in (length texts) n texts rows (subst (λ k. RowsBelow (length texts) k rows) long built-below))

  -- and their predicates are numbers of the store
  pub built-known : AreRowsKnown texts (built hash quads firsts others)
  built-known =
      let rows = built hash quads firsts others in
      All-from_recursion (λ (row : StoredRow). All (λ (r : StoredRelated). r.predicate.index < length texts) row.related) rows (known_in (length texts) (length rows) rows built-below)
