-- A call over a table answers for the blank nodes of its dataset.
use Rattle.std.proofs.Common.{◌≡◌, ℕ, ◌<◌, List, [], ◌∷◌, ◌++◌, map, length, refl, sym, ap, ◌∙◌, subst, inl, inr, Bool, cond, Contains, Option, Some, None, option_map, slice_get, append-nil, append_assoc}
use Rattle.std.specs.Prelude.{All}
use Rattle.std.specs.List.{AllByRecursion, AllZip, cons_option, filter_map}
use Rattle.std.proofs.lemmas.Option.{get_or_from_slice_get, slice_get-get_or, slice_get-map}
use Rattle.std.proofs.lemmas.List.{map-append, length-map}
use Rattle.std.proofs.lemmas.List.Elements.{All-contains, Contains-append_left, Contains-append_right, Contains-append_cases}
use Rattle.base_types.specs.Sets.{AllDiffer}
use Rattle.base_types.proofs.Lists.{Contains-nil, Contains-here, Contains-there, Contains-cons_cases, Contains-map, AllDiffer-images}
use Rattle.digest_mac.specs.Digests.{digits}
use Rattle.digest_mac.specs.declared.hash.Hash.{Hash}
use Rattle.term_store.specs.Store.{text_at}
use Rattle.term_store.specs.declared.store.TermId.{TermId}
use Rattle.term_store.specs.declared.statements.Quad.{Quad}
use Rattle.nquads.specs.Terms.{Blank, Statement}
use Rattle.nquads.specs.Spelling.{blank_text, text_quad}
use Rattle.nquads.specs.Stored.{quad_texts}
use Rattle.nquads.specs.declared.hashes.BlankHash.{BlankHash}
use Rattle.nquads.specs.FirstDegree.{AreFirstHashes}
use Rattle.nquads.proofs.ReadingElements.{AllDiffer-head, AllDiffer-tail}
use Rattle.rdfc_ndegree.specs.NDegree.{Outcome, IsNDegree}
use Rattle.rdfc_ndegree.specs.Datasets.{nodes_of}
use Rattle.rdfc_ndegree.specs.Table.{NodeRow, table_nodes, names_of}
use Rattle.rdfc_ndegree.specs.TableOf.{IsRowOf, IsTableOf, IsTableWith, first_names}
use Rattle.rdfc_ndegree.specs.Answers.{answer, AnswersCall, CallOver}
use Rattle.rdfc_ndegree.specs.Requests.{stored_dataset, call_numbers, IsCallFor}
use Rattle.rdfc_ndegree.specs.Internal.Issuing.{issue_numbers}
use Rattle.rdfc_ndegree.specs.Internal.Building.{place_among}
use Rattle.rdfc_ndegree.proofs.Carry.{outcome_f, IsNDegree-carried, IsNDegree-inside}
use Rattle.rdfc_ndegree.proofs.Permutations.{Each-from_contains}
use Rattle.rdfc_ndegree.proofs.TableCarry.{at, no_blank, table-carries, table-length}
use Rattle.rdfc_ndegree.proofs.BuildLemmas.{number-below}
use Rattle.rdfc_ndegree.proofs.Tables.{absent-any}
use Rattle.rdfc_ndegree.proofs.BuiltRows.{text_of}
use Rattle.rdfc_ndegree.proofs.NodePlaces.{blank-known, AreNumbersOf, numbered_blank}
use Rattle.rdfc_ndegree.specs.Internal.Progress.{spending_of}

-- ---- the issuer that has named a list without repeats

issued-append : (c ns : List ℕ) → AllDiffer ns → ((n : ℕ) → Contains ns n → Contains c n → ⊥) → issue_numbers c ns ≡ c ++ ns
issued-append c [] a free = sym (append-nil c)
issued-append c (n ∷ ns) a free =
    let none = absent-any c n (free n (Contains-here n ns)) in
    let apart : (m : ℕ) → Contains ns m → Contains (c ++ n ∷ []) m → ⊥ = λ m d e.
    elim (Contains-append_cases c (n ∷ []) m e) [
      | inl f ↦ free m (Contains-there n ns m d) f
      | inr f ↦ elim (Contains-cons_cases n [] m f) [ inl g ↦ AllDiffer-head n ns a (subst (Contains ns) (sym g) d) | inr h ↦ Contains-nil m h ]
    ] in
    ap (λ t. issue_numbers (cond t c (c ++ n ∷ [])) ns) none
    ∙ issued-append (c ++ n ∷ []) ns (AllDiffer-tail n ns a) apart
    ∙ append_assoc c (n ∷ []) ns

-- ---- rows for nodes, and nodes for rows

rows-named : (hash : Hash) (q : List Statement) (bs : List Blank) (all : List Blank) (rows : List NodeRow) → AllZip (IsRowOf hash q all) bs rows → names_of rows ≡ map blank_text bs
rows-named hash q [] all [] z = refl
rows-named hash q [] all (r ∷ rows) z = absurd z
rows-named hash q (b ∷ bs) all [] z = absurd z
rows-named hash q (b ∷ bs) all (r ∷ rows) z = let first = z.0.name in let rest = rows-named hash q bs all rows z.1 in λ j. first j ∷ rest j

-- numbers that have the texts of blank nodes are all of the store
all_known : (texts : List (List ℕ)) (ids : List ℕ) (bs : List Blank) → map (text_of texts) ids ≡ map blank_text bs → AllByRecursion (λ n. n < length texts) ids
all_known texts [] bs named = tt
all_known texts (n ∷ ns) [] named = absurd (cc)
all_known texts (n ∷ ns) (b ∷ bs) named =
    let first : text_of texts n ≡ blank_text b = cc in
    let later : map (text_of texts) ns ≡ map blank_text bs = cc in
    (blank-known texts (record { index = n }) b first, all_known texts ns bs later)

module _ (texts : List (List ℕ)) (bs : List Blank) (ids : List ℕ) (are : AreNumbersOf texts bs ids) where
  numbers-are : (nodes : List TermId) (cs : List Blank) → map (text_at texts) nodes ≡ map blank_text cs → AllByRecursion (Contains bs) cs → map (at bs) (filter_map (place_among ids) nodes) ≡ cs
  numbers-are [] [] named h = refl
  numbers-are [] (c ∷ cs) named h = absurd (cc)
  numbers-are (id ∷ nodes) [] named h = absurd (cc)
  numbers-are (id ∷ nodes) (c ∷ cs) named h =
      let first : text_at texts id ≡ blank_text c = cc in
      let later : map (text_at texts) nodes ≡ map blank_text cs = cc in
      let k = numbered_blank texts bs ids are c id first h.0 in
      let rest = numbers-are nodes cs later h.1 in
      let step : filter_map (place_among ids) (id ∷ nodes) ≡ k.0 ∷ filter_map (place_among ids) nodes = ap (λ o. cons_option o (filter_map (place_among ids) nodes)) k.1 in
      let one : at bs k.0 ≡ c = get_or_from_slice_get bs k.0 c no_blank k.2 in
      ap (map (at bs)) step ∙ (λ j. one j ∷ rest j)

  -- the number of row k has the text of the blank node at k
  number-at : (k : ℕ) → k < length bs → (n : ℕ) × (slice_get ids k ≡ Some n) × (text_of texts n ≡ blank_text (at bs k))
  number-at k lt =
      let got : slice_get (map (text_of texts) ids) k ≡ Some (blank_text (at bs k)) = ap (λ ts. slice_get ts k) are.named ∙ slice_get-map blank_text bs k ∙ ap (option_map blank_text) (slice_get-get_or bs k no_blank lt) in
      go (slice_get ids k) refl (sym (slice_get-map (text_of texts) ids k) ∙ got)
    where
      go : (o : Option ℕ) → slice_get ids k ≡ o → option_map (text_of texts) (slice_get ids k) ≡ Some (blank_text (at bs k)) → (n : ℕ) × (slice_get ids k ≡ Some n) × (text_of texts n ≡ blank_text (at bs k))
      go None e is = let none : None ≡ Some (blank_text (at bs k)) = ap (option_map (text_of texts)) (sym e) ∙ is in absurd (cc)
      go (Some n) e is = let same : Some (text_of texts n) ≡ Some (blank_text (at bs k)) = ap (option_map (text_of texts)) (sym e) ∙ is in (n, e, cc)

  texts-are : (ks : List ℕ) → AllByRecursion (λ k. k < length bs) ks → map (text_of texts) (filter_map (slice_get ids) ks) ≡ map blank_text (map (at bs) ks)
  texts-are [] h = refl
  texts-are (k ∷ ks) h =
      let n = number-at k h.0 in
      let step : filter_map (slice_get ids) (k ∷ ks) ≡ n.0 ∷ filter_map (slice_get ids) ks = ap (λ o. cons_option o (filter_map (slice_get ids) ks)) n.1 in
      let rest = texts-are ks h.1 in
      let one = n.2 in
      ap (map (text_of texts)) step ∙ (λ j. one j ∷ rest j)

-- ---- the call over the table

pub record IsCarried (hash : Hash) (texts : List (List ℕ)) (q : List Statement) (n : Blank) (c i : List Blank) (rows : List NodeRow) (ids canonical : List ℕ) (node : ℕ) (issuer : List ℕ) : Type 0 where
  pub nodes : List Blank
  pub table : IsTableOf hash q nodes rows
  pub numbers : AreNumbersOf texts nodes ids
  pub node_inside : node < length rows
  pub canonical_inside : AllByRecursion (λ k. k < length rows) canonical
  pub issuer_inside : AllByRecursion (λ k. k < length rows) issuer
  pub node_at : at nodes node ≡ n
  pub canonical_at : map (at nodes) canonical ≡ c
  pub issuer_at : map (at nodes) issuer ≡ i

-- the texts of terms are those of their numbers
numbers-texts : (texts : List (List ℕ)) (ids : List TermId) (ns : List ℕ) → map (λ (id : TermId). id.index) ids ≡ ns → map (text_at texts) ids ≡ map (text_of texts) ns
numbers-texts texts [] [] e = refl
numbers-texts texts [] (n ∷ ns) e = absurd (cc)
numbers-texts texts (id ∷ ids) [] e = absurd (cc)
numbers-texts texts (id ∷ ids) (n ∷ ns) e =
    let first : id.index ≡ n = cc in
    let later : map (λ (id : TermId). id.index) ids ≡ ns = cc in
    let rest = numbers-texts texts ids ns later in
    λ j. text_of texts (first j) ∷ rest j

module _ {hash : Hash} {texts : List (List ℕ)} {q : List Statement} {n : Blank} {c i : List Blank} {rows : List NodeRow} {ids canonical : List ℕ} {node : ℕ} {issuer : List ℕ} (s : IsCarried hash texts q n c i rows ids canonical node issuer) where
  record IsThere (o : Outcome ℕ) : Type 0 where
    inside : AllByRecursion (λ k. k < length rows) o.issuer
    call : IsNDegree (nodes_of (digits hash) q) c n i (outcome_f (at s.nodes) o)

  there : (o : Outcome ℕ) → IsNDegree (table_nodes hash rows) canonical node issuer o → IsThere o
  there o d =
      let r = IsNDegree-carried (at s.nodes) (λ k. k < length rows) (table_nodes hash rows) (nodes_of (digits hash) q) (table-carries hash q s.nodes rows s.table) canonical node issuer o s.canonical_inside s.issuer_inside s.node_inside d in
      let within = IsNDegree-inside (at s.nodes) (λ k. k < length rows) (table_nodes hash rows) (nodes_of (digits hash) q) (table-carries hash q s.nodes rows s.table) canonical node issuer o s.canonical_inside s.issuer_inside s.node_inside d in
      let a = s.canonical_at in
      let b = s.node_at in
      let e = s.issuer_at in
      let moved : IsNDegree (nodes_of (digits hash) q) c n i (outcome_f (at s.nodes) o) = coe_call (map (at s.nodes) canonical) c (at s.nodes node) n (map (at s.nodes) issuer) i a b e (outcome_f (at s.nodes) o) r in
      record { inside = within; call = moved }
    where
      coe_call : (c d : List Blank) (m n : Blank) (i j : List Blank) → c ≡ d → m ≡ n → i ≡ j → (o : Outcome Blank) → IsNDegree (nodes_of (digits hash) q) c m i o → IsNDegree (nodes_of (digits hash) q) d n j o
      coe_call c d m n i j e f g o h = subst (λ z. IsNDegree (nodes_of (digits hash) q) d n z o) g (subst (λ z. IsNDegree (nodes_of (digits hash) q) d z i o) f (subst (λ z. IsNDegree (nodes_of (digits hash) q) z m i o) e h))

  pub answers : {digest : List ℕ} {named : List ℕ} {tie : Bool} {old new : ℕ} (order : List TermId) → AnswersCall (table_nodes hash rows) canonical node issuer (answer digest named tie) (spending_of old new) → map (λ (id : TermId). id.index) order ≡ filter_map (slice_get ids) named → (j : List Blank) × (map (text_at texts) order ≡ map blank_text j) × AnswersCall (nodes_of (digits hash) q) c n i (answer digest j tie) (spending_of old new)
  answers {named = named} order a is =
      let t = there a.outcome a.call in
      let e = a.issuer_is in
      let same = table-length hash q s.nodes rows s.table in
      let inside : AllByRecursion (λ k. k < length s.nodes) named = subst (λ m. AllByRecursion (λ k. k < m) named) (sym same) (subst (AllByRecursion (λ k. k < length rows)) (sym e) t.inside) in (
        map (at s.nodes) named,
        numbers-texts texts order (filter_map (slice_get ids) named) is ∙ texts-are texts s.nodes ids s.numbers named inside,
        record {
          outcome = outcome_f (at s.nodes) a.outcome;
          call = t.call;
          hash_is = a.hash_is;
          issuer_is = ap (map (at s.nodes)) e;
          tie_is = a.tie_is;
          spent = a.spent;
        },
      )

  pub over : {old limit : ℕ} → CallOver (table_nodes hash rows) canonical node issuer old limit → CallOver (nodes_of (digits hash) q) c n i old limit
  over a = record { outcome = outcome_f (at s.nodes) a.outcome; call = (there a.outcome a.call).call; over = a.over }

-- ---- places are rows, whatever the texts are

-- the place of a node is a row of the table, whose texts are those of the numbers
pub number-inside : (texts : List (List ℕ)) (rows : List NodeRow) (ids : List ℕ) → names_of rows ≡ map (text_of texts) ids → (id : TermId) (k : ℕ) → place_among ids id ≡ Some k → k < length rows
number-inside texts rows ids names id k e =
    let long : length ids ≡ length rows = sym (length-map ids (text_of texts)) ∙ ap length (sym names) ∙ length-map rows (λ (r : NodeRow). r.blank) in
    subst (λ n. k < n) long (number-below ids id.index k e)

-- the places of nodes are all rows of the table
pub numbers-inside : (texts : List (List ℕ)) (rows : List NodeRow) (ids : List ℕ) → names_of rows ≡ map (text_of texts) ids → (nodes : List TermId) → AllByRecursion (λ k. k < length rows) (filter_map (place_among ids) nodes)
numbers-inside texts rows ids names [] = tt
numbers-inside texts rows ids names (id ∷ nodes) = go (place_among ids id) refl (numbers-inside texts rows ids names nodes)
  where
    go : (o : Option ℕ) → place_among ids id ≡ o → AllByRecursion (λ k. k < length rows) (filter_map (place_among ids) nodes) → AllByRecursion (λ k. k < length rows) (cons_option o (filter_map (place_among ids) nodes))
    go None e rest = rest
    go (Some k) e rest = (number-inside texts rows ids names id k e, rest)

-- the last of the further nodes is one of the table
pub last-named : (numbers : List ℕ) (others : List TermId) (canonical issuer : List TermId) (node : TermId) → others ≡ canonical ++ (issuer ++ node ∷ []) → All (Contains numbers) (map (λ (id : TermId). id.index) others) → Contains numbers node.index
last-named numbers others canonical issuer node is all =
    let there = Contains-append_right canonical (issuer ++ node ∷ []) node (Contains-append_right issuer (node ∷ []) node (Contains-here node [])) in
    All-contains (Contains numbers) (map (λ (id : TermId). id.index) others) node.index all (Contains-map (λ (id : TermId). id.index) others node (subst (λ ts. Contains ts node) (sym is) there))

-- ---- from the numbers of a call

-- the blank nodes that the table is made with
abbrev called_on : Blank → List Blank → List Blank → List Blank
called_on n c i = c ++ (i ++ n ∷ [])

-- what the steps of the program have made of the numbers of a call
pub record Steps (hash : Hash) (texts : List (List ℕ)) (quads : List Quad) (firsts : List BlankHash) (canonical : List TermId) (node : TermId) (issuer : List TermId) (rows : List NodeRow) (ids named : List ℕ) (number : ℕ) (begun : List ℕ) : Type 0 where
  pub differ : AllDiffer texts
  pub table : (q : List Statement) (cs : List Blank) → map (quad_texts texts) quads ≡ map text_quad q → AreFirstHashes (digits hash) texts q firsts → map (text_at texts) (canonical ++ (issuer ++ node ∷ [])) ≡ map blank_text cs → IsTableWith hash q (first_names texts firsts) cs rows
  pub names : names_of rows ≡ map (text_of texts) ids
  pub named_is : named ≡ issue_numbers [] (filter_map (place_among ids) canonical)
  pub begun_is : begun ≡ filter_map (place_among ids) issuer
  pub number_is : place_among ids node ≡ Some number

-- the steps of a call, put together
pub steps : {hash : Hash} {texts : List (List ℕ)} {quads : List Quad} {firsts : List BlankHash} {canonical : List TermId} {node : TermId} {issuer first second : List TermId} {rows : List NodeRow} {ids named : List ℕ} {number : ℕ} {begun : List ℕ} → first ≡ canonical → second ≡ issuer → AllDiffer texts
    → ((q : List Statement) (cs : List Blank) → map (quad_texts texts) quads ≡ map text_quad q → AreFirstHashes (digits hash) texts q firsts → map (text_at texts) (first ++ (second ++ node ∷ [])) ≡ map blank_text cs → IsTableWith hash q (first_names texts firsts) cs rows)
    → names_of rows ≡ map (text_of texts) ids → named ≡ issue_numbers [] (filter_map (place_among ids) first) → begun ≡ filter_map (place_among ids) second → Some number ≡ place_among ids node → Steps hash texts quads firsts canonical node issuer rows ids named number begun
steps {texts = texts} {node = node} {ids = ids} a b differ table names named_is begun_is number_is = record {
  differ = differ;
  table = λ q cs is are all. table q cs is are (ap (map (text_at texts)) (λ j. a j ++ (b j ++ node ∷ [])) ∙ all);
  names = names;
  named_is = named_is ∙ ap (λ ts. issue_numbers [] (filter_map (place_among ids) ts)) a;
  begun_is = begun_is ∙ ap (filter_map (place_among ids)) b;
  number_is = sym number_is;
}

-- what a call over the table answers is an answer over the dataset
pub call_carried : {hash : Hash} {texts : List (List ℕ)} {quads : List Quad} {firsts : List BlankHash} {canonical : List TermId} {node : TermId} {issuer : List TermId} (q : List Statement) (n : Blank) (c i : List Blank) → IsCallFor q n c i (call_numbers (stored_dataset hash texts quads firsts) canonical node issuer)
    → {rows : List NodeRow} {ids named begun : List ℕ} {number : ℕ} → Steps hash texts quads firsts canonical node issuer rows ids named number begun → IsCarried hash texts q n c i rows ids named number begun
call_carried {hash = hash} {texts = texts} {firsts = firsts} {canonical = canonical} {node = node} {issuer = issuer} q n c i call {rows = rows} {ids = ids} {named = named} {begun = begun} {number = number} s =
    let canonical_is = call.canonical_is in
    let issuer_is = call.issuer_is in
    let node_is = call.node_is in
    let split : map (text_at texts) (canonical ++ (issuer ++ node ∷ [])) ≡ map (text_at texts) canonical ++ (map (text_at texts) issuer ++ text_at texts node ∷ []) = map-append (text_at texts) canonical (issuer ++ node ∷ []) ∙ ap (λ ts. map (text_at texts) canonical ++ ts) (map-append (text_at texts) issuer (node ∷ [])) in
    let joined : map blank_text (called_on n c i) ≡ map blank_text c ++ (map blank_text i ++ blank_text n ∷ []) = map-append blank_text c (i ++ n ∷ []) ∙ ap (λ ts. map blank_text c ++ ts) (map-append blank_text i (n ∷ [])) in
    let all : map (text_at texts) (canonical ++ (issuer ++ node ∷ [])) ≡ map blank_text (called_on n c i) = split ∙ (λ j. canonical_is j ++ (issuer_is j ++ node_is j ∷ [])) ∙ sym joined in
    let t = s.table q (called_on n c i) call.dataset_is.quads_are call.dataset_is.hashes all in
    let bs = t.nodes in
    let of_rows : map (text_of texts) ids ≡ map blank_text bs = sym s.names ∙ rows-named hash q bs bs rows t.table.each in
    let are : AreNumbersOf texts bs ids = record { differ = s.differ; known = all_known texts ids bs of_rows; named = of_rows } in
    let there : (b : Blank) → Contains (called_on n c i) b → Contains bs b = λ b m. All-contains (Contains bs) (called_on n c i) b t.others m in
    let each_c : AllByRecursion (Contains bs) c = Each-from_contains (Contains bs) c (λ b m. there b (Contains-append_left c (i ++ n ∷ []) b m)) in
    let each_i : AllByRecursion (Contains bs) i = Each-from_contains (Contains bs) i (λ b m. there b (Contains-append_right c (i ++ n ∷ []) b (Contains-append_left i (n ∷ []) b m))) in
    let here : Contains bs n = there n (Contains-append_right c (i ++ n ∷ []) n (Contains-append_right i (n ∷ []) n (Contains-here n []))) in
    let c_places : List ℕ = filter_map (place_among ids) canonical in
    let c_are : map (at bs) c_places ≡ c = numbers-are texts bs ids are canonical c canonical_is each_c in
    let c_is : named ≡ c_places = s.named_is ∙ issued-append [] c_places (AllDiffer-images (at bs) c_places (subst AllDiffer (sym c_are) call.once)) (λ k m e. Contains-nil k e) in
    let i_are : map (at bs) (filter_map (place_among ids) issuer) ≡ i = numbers-are texts bs ids are issuer i issuer_is each_i in
    let k = numbered_blank texts bs ids are n node node_is here in
    let at_k : Some k.0 ≡ Some number = sym k.1 ∙ s.number_is in
    let same : k.0 ≡ number = cc in
    let got : slice_get bs number ≡ Some n = subst (λ m. slice_get bs m ≡ Some n) same k.2 in
    record {
      nodes = bs;
      table = t.table;
      numbers = are;
      node_inside = number-inside texts rows ids s.names node number s.number_is;
      canonical_inside = subst (AllByRecursion (λ k. k < length rows)) (sym c_is) (numbers-inside texts rows ids s.names canonical);
      issuer_inside = subst (AllByRecursion (λ k. k < length rows)) (sym s.begun_is) (numbers-inside texts rows ids s.names issuer);
      node_at = get_or_from_slice_get bs number n no_blank got;
      canonical_at = ap (map (at bs)) c_is ∙ c_are;
      issuer_at = ap (map (at bs)) s.begun_is ∙ i_are;
    }
