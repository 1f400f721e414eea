-- A table built of the numbers of a store is that of its dataset.
use Rattle.std.proofs.Common.{◌≡◌, ℕ, zero, suc, ◌<◌, List, [], ◌∷◌, ◌++◌, map, length, refl, sym, ap, ◌∙◌, subst, inl, inr, arith, Bool, true, false, cond, Contains, Option, Some, None, option_map, slice_get, append-nil, append_assoc}
use Rattle.std.specs.Prelude.{◌⊎◌, All}
use Rattle.std.specs.Option.{is_some}
use Rattle.std.specs.List.{AllByRecursion, AllZip, concat, flat_map}
use Rattle.std.proofs.lemmas.Option.{slice_get-map}
use Rattle.std.proofs.lemmas.List.{map-append, length-map}
use Rattle.std.proofs.lemmas.List.Elements.{All-contains, All-from_recursion, Contains-append_left, Contains-append_cases}
use Rattle.base_types.specs.Order.{in_order}
use Rattle.base_types.specs.Sets.{AllDiffer}
use Rattle.base_types.proofs.Lists.{AllByRecursion-contains, Contains-nil, Contains-here, Contains-there, Contains-cons_cases, Contains-map, Contains-from_map, AllDiffer-images, map-map}
use Rattle.digest_mac.specs.Digests.{digits}
use Rattle.digest_mac.specs.declared.hash.Hash.{Hash}
use Rattle.term_store.specs.Store.{text_at}
use Rattle.term_store.specs.declared.store.TermId.{TermId}
use Rattle.term_store.specs.declared.statements.Quad.{Quad}
use Rattle.term_store.proofs.StoreLemmas.{text_at-one}
use Rattle.nquads.specs.Terms.{Blank, Statement}
use Rattle.nquads.specs.Renaming.{blanks_of, StandsIn}
use Rattle.nquads.specs.Spelling.{blank_text, text_quad}
use Rattle.nquads.specs.Stored.{IsKnown, quad_texts}
use Rattle.nquads.specs.Lines.{line}
use Rattle.nquads.specs.FirstDegree.{mentions, mention_set, mark, first_degree_hash, IsFirstHash, AreFirstHashes}
use Rattle.nquads.specs.declared.hashes.BlankHash.{BlankHash}
use Rattle.nquads.proofs.CountedBlanks.{number_of_blank}
use Rattle.nquads.proofs.ReadingTerms.{blank_text_one_reading}
use Rattle.nquads.proofs.ReadingBlanks.{to_blanks_in}
use Rattle.nquads.proofs.ReadingElements.{All-from_contains, AllDiffer-nil, AllDiffer-cons, AllDiffer-head, AllDiffer-tail, AllDiffer-map}
use Rattle.rdfc_ndegree.specs.Datasets.{related_in}
use Rattle.rdfc_ndegree.specs.Table.{NodeRow, row_texts, related_texts, occurrence_of, names_of}
use Rattle.rdfc_ndegree.specs.TableOf.{IsOccurrence, IsRowOf, IsTableWith, first_names}
use Rattle.rdfc_ndegree.specs.declared.table.StoredRelated.{StoredRelated}
use Rattle.rdfc_ndegree.specs.declared.table.StoredRow.{StoredRow}
use Rattle.rdfc_ndegree.specs.Internal.Building.{place_among, numbers_of, new_row, with_row, with_rows, unused_node, parts_by_number, with_related, relate_all}
use Rattle.rdfc_ndegree.proofs.Permutations.{Each-append, Each-from_contains}
use Rattle.rdfc_ndegree.proofs.BuildLemmas.{number-None, number-Some, given, gets-all, numbers-all, numbers-append, others-named}
use Rattle.rdfc_ndegree.proofs.BuiltRows.{text_of, length-numbers, bare_rows, built, built-numbers}
use Rattle.rdfc_ndegree.proofs.NodePlaces.{list_any-Contains, blank-known, AreNumbersOf, dataset_links}

-- ---- the rows before they have related nodes

about-nothing : (q : List Statement) (b : Blank) → ((s : Statement) → Contains q s → Contains (blanks_of s) b → ⊥) → mention_set q b ≡ []
about-nothing [] b none = refl
about-nothing (s ∷ q) b none = go (mentions b s) refl (about-nothing q b (λ t m. none t (Contains-there s q t m)))
  where
    go : (t : Bool) → mentions b s ≡ t → mention_set q b ≡ [] → cond t (s ∷ mention_set q b) (mention_set q b) ≡ []
    go true e rest = absurd (none s (Contains-here s q) (list_any-Contains b (blanks_of s) e))
    go false e rest = rest

same_id : (x y : TermId) → x.index ≡ y.index → x ≡ y
same_id x y e = λ i. record { index = e i }

-- nothing stands in the list beside what is put at its end
differ-push : (xs : List ℕ) (x : ℕ) → AllDiffer xs → (Contains xs x → ⊥) → AllDiffer (xs ++ x ∷ [])
differ-push [] x a free = AllDiffer-cons x [] (Contains-nil x) AllDiffer-nil
differ-push (y ∷ xs) x a free =
    AllDiffer-cons y (xs ++ x ∷ [])
    (λ m. elim (Contains-append_cases xs (x ∷ []) y m) [
      | inl d ↦ AllDiffer-head y xs a d
      | inr d ↦ elim (Contains-cons_cases x [] y d) [ inl e ↦ free (subst (Contains (y ∷ xs)) (sym e) (Contains-here y xs)) | inr f ↦ Contains-nil y f ]
    ])
    (differ-push xs x (AllDiffer-tail y xs a) (λ m. free (Contains-there y xs x m)))

-- the texts of the rows are those of their numbers
pub names-numbers : (texts : List (List ℕ)) (rows : List StoredRow) → names_of (map (row_texts texts) rows) ≡ map (text_of texts) (numbers_of rows)
names-numbers texts rows = map-map (λ (r : NodeRow). r.blank) (row_texts texts) rows ∙ sym (map-map (text_of texts) (λ (r : StoredRow). r.blank.index) rows)

-- the rows of `firsts`
no_number : (rows : List StoredRow) (id : TermId) → (Contains (numbers_of rows) id.index → ⊥) → place_among (numbers_of rows) id ≡ None
no_number rows id free = go (place_among (numbers_of rows) id) refl
  where
    go : (o : Option ℕ) → place_among (numbers_of rows) id ≡ o → o ≡ None
    go None e = refl
    go (Some k) e = absurd (free (number-Some (numbers_of rows) id.index k e))

abbrev pub first_numbers : List BlankHash → List ℕ
first_numbers hs = map (λ (h : BlankHash). h.blank.index) hs

firsts_rows : (rows : List StoredRow) (hs : List BlankHash) → AllDiffer (first_numbers hs) → ((x : ℕ) → Contains (first_numbers hs) x → Contains (numbers_of rows) x → ⊥) → with_rows rows hs ≡ rows ++ map new_row hs
firsts_rows rows [] a free = sym (append-nil rows)
firsts_rows rows (h ∷ hs) a free =
    let n = h.blank.index in
    let none : place_among (numbers_of rows) h.blank ≡ None = no_number rows h.blank (free h.blank.index (Contains-here h.blank.index (first_numbers hs))) in
    let step : with_row rows h ≡ rows ++ new_row h ∷ [] = ap (λ o. cond (is_some o) rows (rows ++ new_row h ∷ [])) none in
    let apart : (x : ℕ) → Contains (first_numbers hs) x → Contains (numbers_of (rows ++ new_row h ∷ [])) x → ⊥ = λ x m c.
    elim (Contains-append_cases (numbers_of rows) (n ∷ []) x (subst (λ ns. Contains ns x) (numbers-append rows (new_row h)) c)) [
      | inl d ↦ free x (Contains-there n (first_numbers hs) x m) d
      | inr d ↦ elim (Contains-cons_cases n [] x d) [ inl e ↦ AllDiffer-head n (first_numbers hs) a (subst (Contains (first_numbers hs)) (sym e) m) | inr f ↦ Contains-nil x f ]
    ] in
    ap (λ rs. with_rows rs hs) step ∙ firsts_rows (rows ++ new_row h ∷ []) hs (AllDiffer-tail n (first_numbers hs) a) apart ∙ append_assoc rows (new_row h ∷ []) (map new_row hs)

numbers-new : (hs : List BlankHash) → numbers_of (map new_row hs) ≡ first_numbers hs
numbers-new [] = refl
numbers-new (h ∷ hs) = ap (λ ns. h.blank.index ∷ ns) (numbers-new hs)

-- without further nodes the rows are those of `firsts`, where no blank node is named twice
pub built-firsts : (hash : Hash) (texts : List (List ℕ)) (quads : List Quad) (firsts : List BlankHash) → AllDiffer (first_numbers firsts) → names_of (map (row_texts texts) (built hash quads firsts [])) ≡ first_names texts firsts
built-firsts hash texts quads firsts differ =
    let rows : with_rows [] firsts ≡ map new_row firsts = firsts_rows [] firsts differ (λ x m c. Contains-nil x c) in
    names-numbers texts (built hash quads firsts [])
    ∙ ap (map (text_of texts)) (built-numbers hash quads firsts [] ∙ ap numbers_of rows ∙ numbers-new firsts)
    ∙ map-map (text_of texts) (λ (h : BlankHash). h.blank.index) firsts

module _ (hash : Hash) (texts : List (List ℕ)) (distinct : AllDiffer texts) (q : List Statement) (firsts : List BlankHash) (cs : List Blank) where
  abbrev bare : Blank → NodeRow
  bare b = record { blank = blank_text b; first = first_degree_hash (digits hash) q b; related = [] }

  record IsGood (row : StoredRow) : Type 0 where
    node : Blank
    is : row_texts texts row ≡ bare node
    from : StandsIn q node ⊎ Contains cs node

  -- a number of the blank node, among these
  record HasNumber (numbers : List ℕ) (b : Blank) : Type 0 where
    id : TermId
    names : text_at texts id ≡ blank_text b
    within : Contains numbers id.index

  record IsState (rows : List StoredRow) : Type 0 where
    good : AllByRecursion IsGood rows
    differ : AllDiffer (numbers_of rows)
    covers : (b : Blank) → StandsIn q b → HasNumber (numbers_of rows) b
    rest : List (List ℕ)
    order : map (text_of texts) (numbers_of rows) ≡ first_names texts firsts ++ rest

  firsts_good : (hs : List BlankHash) → ((h : BlankHash) → Contains hs h → IsFirstHash (digits hash) texts q h) → AllByRecursion IsGood (map new_row hs)
  firsts_good [] exact = tt
  firsts_good (h ∷ hs) exact =
      let n = exact h (Contains-here h hs) in
      let text = n.3 in
      let digest = n.4 in
      let seen : row_texts texts (new_row h) ≡ bare n.0 = λ i. record { blank = text i; first = digest i; related = [] } in
      (record { node = n.0; is = seen; from = inl n.1 }, firsts_good hs (λ g m. exact g (Contains-there h hs g m)))

  firsts_state : (quads : List Quad) → All (IsKnown texts) quads → map (quad_texts texts) quads ≡ map text_quad q → AreFirstHashes (digits hash) texts q firsts → IsState (with_rows [] firsts)
  firsts_state quads known is are =
      let once : AllDiffer (first_numbers firsts) = subst AllDiffer (map-map (λ (id : TermId). id.index) (λ (h : BlankHash). h.blank) firsts) (AllDiffer-map (λ (id : TermId). id.index) (map (λ (h : BlankHash). h.blank) firsts) (λ x y c d e. same_id x y e) are.once) in
      let rows : with_rows [] firsts ≡ map new_row firsts = firsts_rows [] firsts once (λ x m c. Contains-nil x c) in
      let covers : (b : Blank) → StandsIn q b → HasNumber (numbers_of (map new_row firsts)) b = λ b stands.
      let id = number_of_blank texts quads q known is b stands in
      let h : BlankHash = record { blank = id.0; hash = first_degree_hash (digits hash) q b } in
      let there : Contains firsts h = (are.exact h).1 (b, stands, id.1, id.2, refl) in
      record { id = id.0; names = id.2; within = subst (λ ns. Contains ns id.0.index) (sym (numbers-new firsts)) (Contains-map (λ (h : BlankHash). h.blank.index) firsts h there) } in
      let state : IsState (map new_row firsts) = record {
        good = firsts_good firsts (λ h m. (are.exact h).0 m);
        differ = subst AllDiffer (sym (numbers-new firsts)) once;
        covers = covers;
        rest = [];
        order = ap (map (text_of texts)) (numbers-new firsts) ∙ map-map (text_of texts) (λ (h : BlankHash). h.blank.index) firsts ∙ sym (append-nil (first_names texts firsts));
      } in
      subst IsState (sym rows) state

  -- one further node
  unknown_row : (id : TermId) (b : Blank) → text_at texts id ≡ blank_text b → (StandsIn q b → ⊥) → row_texts texts (new_row (unused_node hash id)) ≡ bare b
  unknown_row id b named free =
      let nothing : mention_set q b ≡ [] = about-nothing q b (λ s m n. free (to_blanks_in q s b m n)) in
      λ i. record { blank = named i; first = digits hash (concat (in_order (map (line (mark b)) (sym nothing i)))); related = [] }

  one_more : (rows : List StoredRow) (id : TermId) (u : Blank) → IsState rows → text_at texts id ≡ blank_text u → Contains cs u → IsState (with_row rows (unused_node hash id))
  one_more rows id u s named within = go (place_among (numbers_of rows) id) refl
    where
      go : (o : Option ℕ) → place_among (numbers_of rows) id ≡ o → IsState (cond (is_some o) rows (rows ++ new_row (unused_node hash id) ∷ []))
      go (Some k) e = s
      go None e =
          let row = new_row (unused_node hash id) in
          let absent = number-None (numbers_of rows) id.index e in
          let free : StandsIn q u → ⊥ = λ stands.
          let c = s.covers u stands in
          let same : c.id.index ≡ id.index = text_at-one texts distinct c.id.index id.index (blank-known texts c.id u c.names) (blank-known texts id u named) (c.names ∙ sym named) in
          absent (subst (Contains (numbers_of rows)) same c.within) in
          let numbers : numbers_of (rows ++ row ∷ []) ≡ numbers_of rows ++ id.index ∷ [] = numbers-append rows row in
          let before = s.order in
          record {
            good = Each-append IsGood rows (row ∷ []) s.good (record { node = u; is = unknown_row id u named free; from = inr within }, tt);
            differ = subst AllDiffer (sym numbers) (differ-push (numbers_of rows) id.index s.differ absent);
            covers = λ b stands. let c = s.covers b stands in record { id = c.id; names = c.names; within = subst (λ ns. Contains ns c.id.index) (sym numbers) (Contains-append_left (numbers_of rows) (id.index ∷ []) c.id.index c.within) };
            rest = s.rest ++ blank_text u ∷ [];
            order = ap (map (text_of texts)) numbers ∙ map-append (text_of texts) (numbers_of rows) (id.index ∷ []) ∙ (λ i. before i ++ named i ∷ []) ∙ append_assoc (first_names texts firsts) s.rest (blank_text u ∷ []);
          }

  all_more : (rows : List StoredRow) (ids : List TermId) (us : List Blank) → IsState rows → map (text_at texts) ids ≡ map blank_text us → ((u : Blank) → Contains us u → Contains cs u) → IsState (with_rows rows (map (unused_node hash) ids))
  all_more rows [] us s named within = s
  all_more rows (id ∷ ids) [] s named within = absurd (cc)
  all_more rows (id ∷ ids) (u ∷ us) s named within =
      let first : text_at texts id ≡ blank_text u = cc in
      let later : map (text_at texts) ids ≡ map blank_text us = cc in
      all_more (with_row rows (unused_node hash id)) ids us (one_more rows id u s first (within u (Contains-here u us))) later (λ v m. within v (Contains-there u us v m))

  -- the blank nodes of the rows
  record Drawn (rows : List StoredRow) : Type 0 where
    nodes : List Blank
    zip : AllZip (λ b (row : StoredRow). row_texts texts row ≡ bare b) nodes rows
    each : AllByRecursion (λ b. StandsIn q b ⊎ Contains cs b) nodes
    names : map (text_of texts) (numbers_of rows) ≡ map blank_text nodes
    known : AllByRecursion (λ n. n < length texts) (numbers_of rows)

  drawn : (rows : List StoredRow) → AllByRecursion IsGood rows → Drawn rows
  drawn [] good = record { nodes = []; zip = tt; each = tt; names = refl; known = tt }
  drawn (row ∷ rows) good =
      let d = drawn rows good.1 in
      let first : text_at texts row.blank ≡ blank_text good.0.node = ap (λ (r : NodeRow). r.blank) good.0.is in
      let rest = d.names in
      record { nodes = good.0.node ∷ d.nodes; zip = (good.0.is, d.zip); each = (good.0.from, d.each); names = λ i. first i ∷ rest i; known = (blank-known texts row.blank good.0.node first, d.known) }

named_there : (bs : List Blank) (b : Blank) → Contains (map blank_text bs) (blank_text b) → Contains bs b
named_there bs b c = let found = Contains-from_map blank_text bs (blank_text b) c in subst (Contains bs) (blank_text_one_reading found.0 b found.2) found.1

zip-build : {X Y : Type 0} (R : X → Y → Type 0) (xs : List X) (ys : List Y) → length xs ≡ length ys → ((k : ℕ) (x : X) → slice_get xs k ≡ Some x → (y : Y) × (slice_get ys k ≡ Some y) × R x y) → AllZip R xs ys
zip-build R [] [] e h = tt
zip-build R [] (y ∷ ys) e h = absurd (omega arith)
zip-build R (x ∷ xs) [] e h = absurd (omega arith)
zip-build R (x ∷ xs) (y ∷ ys) e h =
    let first = h 0 x refl in
    let same : y ≡ first.0 = cc (first.1) in
    (subst (R x) (sym same) first.2, zip-build R xs ys (omega arith) (λ k z at_k. h (suc k) z at_k))

-- an element at a place has its partner at the same place
pub zip-find : {X Y : Type 0} (R : X → Y → Type 0) (xs : List X) (ys : List Y) (k : ℕ) (x : X) → AllZip R xs ys → slice_get xs k ≡ Some x → (y : Y) × (slice_get ys k ≡ Some y) × R x y
zip-find R [] ys k x z e = absurd (cc)
zip-find R (w ∷ xs) [] k x z e = absurd z
zip-find R (w ∷ xs) (y ∷ ys) zero x z e = let same : w ≡ x = cc in (y, refl, subst (λ v. R v y) same z.0)
zip-find R (w ∷ xs) (y ∷ ys) (suc k) x z e = zip-find R xs ys k x z.1 e

-- ---- the table

module _ (hash : Hash) (texts : List (List ℕ)) (differ : AllDiffer texts) (q : List Statement) (quads : List Quad) (known : All (IsKnown texts) quads) (is : map (quad_texts texts) quads ≡ map text_quad q) where
  built_table : (firsts : List BlankHash) (cs : List Blank) (rows : List StoredRow) → IsState hash texts differ q firsts cs rows → ((u : Blank) → Contains cs u → HasNumber hash texts differ q firsts cs (numbers_of rows) u) → IsTableWith hash q (first_names texts firsts) cs (map (row_texts texts) (relate_all rows (map (parts_by_number (numbers_of rows)) quads)))
  built_table firsts cs rows s there =
      let d = drawn hash texts differ q firsts cs rows s.good in
      let bs = d.nodes in
      let ids = numbers_of rows in
      let ps = map (parts_by_number ids) quads in
      let last = relate_all rows ps in
      let are : AreNumbersOf texts bs ids = record { differ = differ; known = d.known; named = d.names } in
      let below : (n : ℕ) → Contains ids n → n < length texts = λ n m. AllByRecursion-contains (λ n. n < length texts) ids n d.known m in
      let texts_differ : AllDiffer (map (text_of texts) ids) = AllDiffer-map (text_of texts) ids (λ x y c e. text_at-one texts differ x y (below x c) (below y e)) s.differ in
      let bs_differ : AllDiffer bs = AllDiffer-images blank_text bs (subst AllDiffer d.names texts_differ) in
      let in_nodes : (b : Blank) → HasNumber hash texts differ q firsts cs ids b → Contains bs b = λ b c.
      named_there bs b (subst (λ ns. Contains ns (blank_text b)) d.names (subst (Contains (map (text_of texts) ids)) c.names (Contains-map (text_of texts) ids c.id.index c.within))) in
      let covers : (b : Blank) → StandsIn q b → Contains bs b = λ b stands. in_nodes b (s.covers b stands) in
      let within : (t : Statement) → Contains q t → (c : Blank) → Contains (blanks_of t) c → Contains bs c = λ t m c n. covers c (to_blanks_in q t c m n) in
      let long : length bs ≡ length (map (row_texts texts) last) = sym (length-map bs blank_text) ∙ ap length (sym d.names) ∙ length-map ids (text_of texts) ∙ ap length (sym (numbers-all rows ps)) ∙ length-numbers last ∙ sym (length-map last (row_texts texts)) in
      record {
        nodes = bs;
        table = record {
          differ = bs_differ;
          covers = covers;
          each = zip-build (IsRowOf hash q bs) bs (map (row_texts texts) last) long (λ k b at_k.
              let found = zip-find (λ b (row : StoredRow). row_texts texts row ≡ bare hash texts differ q firsts cs b) bs rows k b d.zip at_k in
              let rs = flat_map (given k) ps in
              let at_last : slice_get last k ≡ Some (with_related found.0 rs) = gets-all rows ps k ∙ ap (option_map (λ (r : StoredRow). with_related r (flat_map (given k) ps))) found.1 in
              let seen : slice_get (map (row_texts texts) last) k ≡ Some (row_texts texts (with_related found.0 rs)) = slice_get-map (row_texts texts) last k ∙ ap (option_map (row_texts texts)) at_last in
              let none : map (related_texts texts) found.0.related ≡ [] = ap (λ (r : NodeRow). r.related) found.2 in
              let after : map (related_texts texts) (found.0.related ++ rs) ≡ map (related_texts texts) rs = map-append (related_texts texts) found.0.related rs ∙ ap (λ xs. xs ++ map (related_texts texts) rs) none in
              let links : AllZip (IsOccurrence bs) (map (λ (r : StoredRelated). occurrence_of (related_texts texts r)) rs) (related_in q b) = dataset_links texts bs ids are bs_differ k b at_k quads q is within in
              let row : IsRowOf hash q bs b (row_texts texts (with_related found.0 rs)) = record {
                name = ap (λ (r : NodeRow). r.blank) found.2;
                first = ap (λ (r : NodeRow). r.first) found.2;
                related = subst (λ os. AllZip (IsOccurrence bs) os (related_in q b)) (sym (ap (map occurrence_of) after ∙ map-map occurrence_of (related_texts texts) rs)) links;
              } in
              (row_texts texts (with_related found.0 rs), seen, row));
        };
        others = All-from_recursion (Contains bs) cs (Each-from_contains (Contains bs) cs (λ u m. in_nodes u (there u m)));
        each = All-from_recursion (λ b. StandsIn q b ⊎ Contains cs b) bs d.each;
        rest = s.rest;
        order = names-numbers texts last ∙ ap (map (text_of texts)) (numbers-all rows ps) ∙ s.order;
      }

  -- the table that is built is that of the dataset with these further nodes
  pub built-with : (cs : List Blank) (firsts : List BlankHash) (others : List TermId) → AreFirstHashes (digits hash) texts q firsts → map (text_at texts) others ≡ map blank_text cs → IsTableWith hash q (first_names texts firsts) cs (map (row_texts texts) (built hash quads firsts others))
  built-with cs firsts others are other =
      let rows = bare_rows hash firsts others in
      let state = all_more hash texts differ q firsts cs (with_rows [] firsts) others cs (firsts_state hash texts differ q firsts cs quads known is are) other (λ u m. m) in
      let there : (u : Blank) → Contains cs u → HasNumber hash texts differ q firsts cs (numbers_of rows) u = λ u m.
      let id = Contains-from_map (text_at texts) others (blank_text u) (subst (λ ts. Contains ts (blank_text u)) (sym other) (Contains-map blank_text cs u m)) in
      let within = AllByRecursion-contains (Contains (numbers_of rows)) (map (λ (id : TermId). id.index) others) id.0.index (others-named hash (with_rows [] firsts) others) (Contains-map (λ (id : TermId). id.index) others id.0 id.1) in
      record { id = id.0; names = id.2; within = within } in
      built_table firsts cs rows state there

-- each further node has a number of the table
pub built-named : (hash : Hash) (firsts : List BlankHash) (others : List TermId) → All (Contains (numbers_of (bare_rows hash firsts others))) (map (λ (id : TermId). id.index) others)
built-named hash firsts others = All-from_recursion (Contains (numbers_of (bare_rows hash firsts others))) (map (λ (id : TermId). id.index) others) (others-named hash (with_rows [] firsts) others)

-- so its text is one of the table
pub named-texts : (texts : List (List ℕ)) (numbers : List ℕ) (others : List TermId) → All (Contains numbers) (map (λ (id : TermId). id.index) others) → All (Contains (map (text_of texts) numbers)) (map (text_at texts) others)
named-texts texts numbers others all =
    All-from_contains (Contains (map (text_of texts) numbers)) (map (text_at texts) others) (λ t m.
    let id = Contains-from_map (text_at texts) others t m in
    let within = All-contains (Contains numbers) (map (λ (id : TermId). id.index) others) id.0.index all (Contains-map (λ (id : TermId). id.index) others id.0 id.1) in
    subst (Contains (map (text_of texts) numbers)) id.2 (Contains-map (text_of texts) numbers id.0.index within))
