-- The rows of the blank nodes of a statement, and the related nodes that it gives to a row.
use Rattle.std.proofs.Common.{◌≡◌, ◌||◌, ◌==◌, ℕ, zero, suc, ◌<◌, ◌≤◌, List, [], ◌∷◌, ◌++◌, map, length, get_or, refl, sym, ap, ◌∙◌, subst, ⊎_elim, arith, Bool, true, false, cond, not, Contains, Option, Some, None, option_map, bytes_eq, slice_get}
use Rattle.std.specs.Option.{option_and_then}
use Rattle.std.specs.List.{AllByRecursion, AllZip, flat_map, list_any}
use Rattle.std.proofs.Math.Bool.{or-false, or_assoc}
use Rattle.std.proofs.lemmas.Bool.{cases_lt, false≢true}
use Rattle.std.proofs.lemmas.Bool.Decides.{Decides-eqb}
use Rattle.std.proofs.lemmas.Slice.Eq.{bytes_eq-Decides}
use Rattle.std.proofs.lemmas.Option.{slice_get-map}
use Rattle.std.proofs.lemmas.List.{map-append}
use Rattle.std.proofs.lemmas.List.Elements.{Contains-append_left, Contains-append_right}
use Rattle.std.proofs.lemmas.List.Folds.{list_any-append}
use Rattle.base_types.specs.Sets.{AllDiffer}
use Rattle.base_types.proofs.Lists.{AllByRecursion-contains, Contains-here, Contains-there, Contains-map, Contains-from_map}
use Rattle.term_store.specs.Store.{text_at}
use Rattle.term_store.specs.declared.store.TermId.{TermId}
use Rattle.term_store.specs.declared.statements.Quad.{Quad}
use Rattle.term_store.proofs.StoreLemmas.{text_at-one}
use Rattle.nquads.specs.Terms.{Blank, Term, iri, literal, blank, Statement}
use Rattle.nquads.specs.Renaming.{same_blank, blanks_of_term, blanks_of_graph, blanks_of}
use Rattle.nquads.specs.Spelling.{blank_text, spelling, text_quad, iri_text}
use Rattle.nquads.specs.Stored.{quad_texts}
use Rattle.nquads.specs.FirstDegree.{mentions, mention_set}
use Rattle.nquads.proofs.ReadingTerms.{blank_text_one_reading}
use Rattle.nquads.proofs.ReadingBlanks.{same_blank-true, same_blank-false}
use Rattle.nquads.proofs.ReadingElements.{AllDiffer-head, AllDiffer-tail}
use Rattle.rdfc_ndegree.specs.declared.table.Position.TheVariants as position
use Rattle.rdfc_ndegree.specs.Nodes.{Occurrence}
use Rattle.rdfc_ndegree.specs.Datasets.{occurrence, occurrences_at, occurrences_in, related_in}
use Rattle.rdfc_ndegree.specs.Table.{related_texts, occurrence_of}
use Rattle.rdfc_ndegree.specs.TableOf.{IsOccurrence}
use Rattle.rdfc_ndegree.specs.declared.building.Parts.{Parts}
use Rattle.rdfc_ndegree.specs.declared.table.Position.{Position}
use Rattle.rdfc_ndegree.specs.declared.table.StoredRelated.{StoredRelated}
use Rattle.rdfc_ndegree.specs.Internal.Building.{place_among, parts_by_number, related_nodes_at, related_nodes}
use Rattle.rdfc_ndegree.proofs.Membership.{AllZip-append}
use Rattle.rdfc_ndegree.proofs.BuildLemmas.{option_cases, number-get, number-there, is_at, stands, given}
use Rattle.rdfc_ndegree.proofs.BuiltRows.{text_of}

-- ---- the parts of a statement

-- a blank node that is found in a list stands in it
pub list_any-Contains : (n : Blank) (bs : List Blank) → list_any (same_blank n) bs ≡ true → Contains bs n
list_any-Contains n [] e = absurd (false≢true e)
list_any-Contains n (b ∷ bs) e = go (same_blank n b) refl e (list_any-Contains n bs)
  where
    go : (t : Bool) → same_blank n b ≡ t → (t || list_any (same_blank n) bs) ≡ true → (list_any (same_blank n) bs ≡ true → Contains bs n) → Contains (b ∷ bs) n
    go true h e rest = subst (Contains (b ∷ bs)) (sym (same_blank-true n b h)) (Contains-here b bs)
    go false h e rest = Contains-there b bs n (rest e)

-- the blank node at a place is the one with the text at that place
pub got_map : (bs : List Blank) (k : ℕ) (b : Blank) → slice_get (map blank_text bs) k ≡ Some (blank_text b) → slice_get bs k ≡ Some b
got_map [] k b e = absurd (cc)
got_map (c ∷ bs) zero b e = ap Some (blank_text_one_reading c b (cc))
got_map (c ∷ bs) (suc k) b e = got_map bs k b e

got_Contains : {X : Type 0} (xs : List X) (k : ℕ) (x : X) → slice_get xs k ≡ Some x → Contains xs x
got_Contains [] k x e = absurd (cc)
got_Contains (y ∷ xs) zero x e = subst (Contains (y ∷ xs)) (cc) (Contains-here y xs)
got_Contains (y ∷ xs) (suc k) x e = Contains-there y xs x (got_Contains xs k x e)

one_place : {X : Type 0} (xs : List X) (j k : ℕ) (x : X) → AllDiffer xs → slice_get xs j ≡ Some x → slice_get xs k ≡ Some x → j ≡ k
one_place [] j k x a e f = absurd (cc)
one_place (y ∷ xs) zero zero x a e f = refl
one_place (y ∷ xs) zero (suc k) x a e f = let same : y ≡ x = cc in absurd (AllDiffer-head y xs a (got_Contains xs k y (f ∙ ap Some (sym same))))
one_place (y ∷ xs) (suc j) zero x a e f = let same : y ≡ x = cc in absurd (AllDiffer-head y xs a (got_Contains xs j y (e ∙ ap Some (sym same))))
one_place (y ∷ xs) (suc j) (suc k) x a e f = ap suc (one_place xs j k x (AllDiffer-tail y xs a) e f)

-- what is past the last text is nothing
past : (ts : List (List ℕ)) (n : ℕ) → length ts ≤ n → get_or ts n [] ≡ []
past [] n le = refl
past (t ∷ ts) zero le = absurd (omega arith)
past (t ∷ ts) (suc n) le = past ts n (omega arith)

-- a number with the text of a blank node is one of the store
pub blank-known : (texts : List (List ℕ)) (id : TermId) (b : Blank) → text_at texts id ≡ blank_text b → id.index < length texts
blank-known texts id b is = ⊎_elim (λ l. l) (λ le. let none = sym (past texts id.index le) ∙ is in absurd (cc)) (cases_lt id.index (length texts))

-- the numbers `ids` are those of the blank nodes `bs`
pub record AreNumbersOf (texts : List (List ℕ)) (bs : List Blank) (ids : List ℕ) : Type 0 where
  pub differ : AllDiffer texts
  pub known : AllByRecursion (λ n. n < length texts) ids
  pub named : map (text_of texts) ids ≡ map blank_text bs

module _ (texts : List (List ℕ)) (bs : List Blank) (ids : List ℕ) (are : AreNumbersOf texts bs ids) where
  -- the place of a blank node of the list
  pub numbered_blank : (b : Blank) (id : TermId) → text_at texts id ≡ blank_text b → Contains bs b → (k : ℕ) × (place_among ids id ≡ Some k) × (slice_get bs k ≡ Some b)
  numbered_blank b id is m =
      let c : Contains (map (text_of texts) ids) (blank_text b) = subst (λ ts. Contains ts (blank_text b)) (sym are.named) (Contains-map blank_text bs b m) in
      let j = Contains-from_map (text_of texts) ids (blank_text b) c in
      let below = AllByRecursion-contains (λ n. n < length texts) ids j.0 are.known j.1 in
      let same : j.0 ≡ id.index = text_at-one texts are.differ j.0 id.index below (blank-known texts id b is) (j.2 ∙ sym is) in
      let k = number-there ids id.index (subst (Contains ids) same j.1) in
      let got : slice_get ids k.0 ≡ Some id.index = number-get ids id.index k.0 k.1 in
      (k.0, k.1, got_map bs k.0 b (ap (λ ts. slice_get ts k.0) (sym are.named) ∙ slice_get-map (text_of texts) ids k.0 ∙ ap (option_map (text_of texts)) got ∙ ap Some is))

  -- what is no blank node has no place
  no_place : (id : TermId) (t : Term) → text_at texts id ≡ spelling t → ((b : Blank) → bytes_eq (spelling t) (blank_text b) ≡ false) → place_among ids id ≡ None
  no_place id t is other = go (place_among ids id) refl
    where
      go : (o : Option ℕ) → place_among ids id ≡ o → o ≡ None
      go None e = refl
      go (Some k) e =
          let got : slice_get ids k ≡ Some id.index = number-get ids id.index k e in
          let at : option_map blank_text (slice_get bs k) ≡ Some (spelling t) = sym (slice_get-map blank_text bs k) ∙ ap (λ ts. slice_get ts k) (sym are.named) ∙ slice_get-map (text_of texts) ids k ∙ ap (option_map (text_of texts)) got ∙ ap Some is in
          let b = option_cases (slice_get bs k) blank_text (spelling t) at in
          absurd (false≢true (sym (other b.0) ∙ (bytes_eq-Decides (spelling t) (blank_text b.0)).1 (sym b.2)))

  module _ (bs_differ : AllDiffer bs) (k : ℕ) (b : Blank) (at_k : slice_get bs k ≡ Some b) where
    same_place : (j : ℕ) (c : Blank) → slice_get bs j ≡ Some c → (j == k) ≡ same_blank b c
    same_place j c at_j = go (j == k) (same_blank b c) refl refl
      where
        go : (t u : Bool) → (j == k) ≡ t → same_blank b c ≡ u → t ≡ u
        go true true e f = refl
        go false false e f = refl
        go true false e f =
            let is : j ≡ k = (Decides-eqb j k).0 e in
            let both : Some c ≡ Some b = sym at_j ∙ ap (slice_get bs) is ∙ at_k in
            let same : b ≡ c = cc in
            absurd (same_blank-false b c f same)
        go false true e f =
            let same : b ≡ c = same_blank-true b c f in
            let is : j ≡ k = one_place bs j k c bs_differ at_j (at_k ∙ ap Some same) in
            absurd (false≢true (sym e ∙ (Decides-eqb j k).1 is))

    abbrev InBlanks : List Blank → Type 0
    InBlanks cs = (c : Blank) → Contains cs c → Contains bs c

    part_at : (id : TermId) (t : Term) → text_at texts id ≡ spelling t → InBlanks (blanks_of_term t) → is_at k (place_among ids id) ≡ list_any (same_blank b) (blanks_of_term t)
    part_at id (iri text) is h = ap (is_at k) (no_place id (iri text) is (λ c. refl))
    part_at id (literal text datatype language) is h = ap (is_at k) (no_place id (literal text datatype language) is (λ c. refl))
    part_at id (blank c) is h =
        let j = numbered_blank c id is (h c (Contains-here c [])) in
        ap (is_at k) j.1 ∙ same_place j.0 c j.2 ∙ sym (or-false (same_blank b c))

    graph_at : (g : Option TermId) (t : Option Term) → option_map (text_at texts) g ≡ option_map spelling t → InBlanks (blanks_of_graph t) → is_at k (option_and_then (place_among ids) g) ≡ list_any (same_blank b) (blanks_of_graph t)
    graph_at None None is h = refl
    graph_at None (Some t) is h = absurd (cc)
    graph_at (Some id) None is h = absurd (cc)
    graph_at (Some id) (Some t) is h = let same : text_at texts id ≡ spelling t = cc in part_at id t same h

    -- a related node of a row, as an occurrence of its number
    abbrev occurrence_at : StoredRelated → Occurrence ℕ
    occurrence_at r = occurrence_of (related_texts texts r)

    part_links : (position : Position) (predicate : TermId) (text : List ℕ) → text_at texts predicate ≡ text → (id : TermId) (t : Term) → text_at texts id ≡ spelling t → InBlanks (blanks_of_term t) → AllZip (IsOccurrence bs) (map occurrence_at (related_nodes_at k position predicate (place_among ids id))) (occurrences_at b position text (blanks_of_term t))
    part_links position predicate text p id (iri x) is h = subst (λ o. AllZip (IsOccurrence bs) (map occurrence_at (related_nodes_at k position predicate o)) []) (sym (no_place id (iri x) is (λ c. refl))) tt
    part_links position predicate text p id (literal x datatype language) is h = subst (λ o. AllZip (IsOccurrence bs) (map occurrence_at (related_nodes_at k position predicate o)) []) (sym (no_place id (literal x datatype language) is (λ c. refl))) tt
    part_links position predicate text p id (blank c) is h =
        let j = numbered_blank c id is (h c (Contains-here c [])) in
        subst (λ o. AllZip (IsOccurrence bs) (map occurrence_at (related_nodes_at k position predicate o)) (occurrences_at b position text (c ∷ []))) (sym j.1)
        (go j.0 j.2 (j.0 == k) (same_blank b c) (same_place j.0 c j.2))
      where
        go : (j : ℕ) → slice_get bs j ≡ Some c → (t u : Bool) → t ≡ u → AllZip (IsOccurrence bs) (map occurrence_at (cond t [] (record { position = position; predicate = predicate; node = j } ∷ []))) (map (occurrence position text) (cond (not u) (c ∷ []) []))
        go j at_j true true e = tt
        go j at_j true false e = absurd (false≢true (sym e))
        go j at_j false true e = absurd (false≢true e)
        go j at_j false false e = (record { position = refl; predicate = p; blank = at_j }, tt)

    graph_links : (predicate : TermId) (text : List ℕ) → text_at texts predicate ≡ text → (g : Option TermId) (t : Option Term) → option_map (text_at texts) g ≡ option_map spelling t → InBlanks (blanks_of_graph t) → AllZip (IsOccurrence bs) (map occurrence_at (related_nodes_at k position.Graph predicate (option_and_then (place_among ids) g))) (occurrences_at b position.Graph text (blanks_of_graph t))
    graph_links predicate text p None None is h = tt
    graph_links predicate text p None (Some t) is h = absurd (cc)
    graph_links predicate text p (Some id) None is h = absurd (cc)
    graph_links predicate text p (Some id) (Some t) is h = let same : text_at texts id ≡ spelling t = cc in part_links position.Graph predicate text p id t same h

    within_subject : (s : Statement) → InBlanks (blanks_of s) → InBlanks (blanks_of_term s.subject)
    within_subject s h c m = h c (Contains-append_left (blanks_of_term s.subject) (blanks_of_term s.object ++ blanks_of_graph s.graph) c m)

    within_object : (s : Statement) → InBlanks (blanks_of s) → InBlanks (blanks_of_term s.object)
    within_object s h c m = h c (Contains-append_right (blanks_of_term s.subject) (blanks_of_term s.object ++ blanks_of_graph s.graph) c (Contains-append_left (blanks_of_term s.object) (blanks_of_graph s.graph) c m))

    within_graph : (s : Statement) → InBlanks (blanks_of s) → InBlanks (blanks_of_graph s.graph)
    within_graph s h c m = h c (Contains-append_right (blanks_of_term s.subject) (blanks_of_term s.object ++ blanks_of_graph s.graph) c (Contains-append_right (blanks_of_term s.object) (blanks_of_graph s.graph) c m))

    abbrev numbers : Quad → Parts
    numbers quad = parts_by_number ids quad

    stands-mentions : (quad : Quad) (s : Statement) → quad_texts texts quad ≡ text_quad s → InBlanks (blanks_of s) → stands k (numbers quad) ≡ mentions b s
    unfolding stands
    stands-mentions quad s is h =
        let whole = list_any-append (same_blank b) (blanks_of_term s.subject) (blanks_of_term s.object ++ blanks_of_graph s.graph) in
        let rest = list_any-append (same_blank b) (blanks_of_term s.object) (blanks_of_graph s.graph) in
        let subject = part_at quad.subject s.subject (λ i. (is i).subject) (within_subject s h) in
        let object = part_at quad.object s.object (λ i. (is i).object) (within_object s h) in
        let graph = graph_at quad.graph s.graph (λ i. (is i).graph) (within_graph s h) in
        (λ i. (subject i || object i) || graph i)
        ∙ or_assoc (list_any (same_blank b) (blanks_of_term s.subject)) (list_any (same_blank b) (blanks_of_term s.object)) (list_any (same_blank b) (blanks_of_graph s.graph))
        ∙ sym (whole ∙ ap (λ t. list_any (same_blank b) (blanks_of_term s.subject) || t) rest)

    statement_links : (quad : Quad) (s : Statement) → quad_texts texts quad ≡ text_quad s → InBlanks (blanks_of s) → AllZip (IsOccurrence bs) (map occurrence_at (related_nodes k (numbers quad))) (occurrences_in b s)
    statement_links quad s is h =
        let p = numbers quad in
        let text : text_at texts quad.predicate ≡ iri_text s.predicate = λ i. (is i).predicate in
        let a = related_nodes_at k position.Subject p.predicate p.subject in
        let d = related_nodes_at k position.Object p.predicate p.object in
        let e = related_nodes_at k position.Graph p.predicate p.graph in
        let u = occurrences_at b position.Subject (iri_text s.predicate) (blanks_of_term s.subject) in
        let v = occurrences_at b position.Object (iri_text s.predicate) (blanks_of_term s.object) in
        let w = occurrences_at b position.Graph (iri_text s.predicate) (blanks_of_graph s.graph) in
        let split : map occurrence_at (a ++ (d ++ e)) ≡ map occurrence_at a ++ (map occurrence_at d ++ map occurrence_at e) = map-append occurrence_at a (d ++ e) ∙ ap (λ os. map occurrence_at a ++ os) (map-append occurrence_at d e) in
        subst (λ os. AllZip (IsOccurrence bs) os (u ++ (v ++ w))) (sym split)
        (AllZip-append (IsOccurrence bs) (map occurrence_at a) (map occurrence_at d ++ map occurrence_at e) u (v ++ w)
        (part_links position.Subject quad.predicate (iri_text s.predicate) text quad.subject s.subject (λ i. (is i).subject) (within_subject s h))
        (AllZip-append (IsOccurrence bs) (map occurrence_at d) (map occurrence_at e) v w
        (part_links position.Object quad.predicate (iri_text s.predicate) text quad.object s.object (λ i. (is i).object) (within_object s h))
        (graph_links quad.predicate (iri_text s.predicate) text quad.graph s.graph (λ i. (is i).graph) (within_graph s h))))

    -- the related nodes of a row are those of its blank node in the dataset
    pub dataset_links : (quads : List Quad) (q : List Statement) → map (quad_texts texts) quads ≡ map text_quad q → ((s : Statement) → Contains q s → InBlanks (blanks_of s)) → AllZip (IsOccurrence bs) (map occurrence_at (flat_map (given k) (map numbers quads))) (related_in q b)
    dataset_links [] [] is h = tt
    dataset_links [] (s ∷ q) is h = absurd (cc)
    dataset_links (quad ∷ quads) [] is h = absurd (cc)
    dataset_links (quad ∷ quads) (s ∷ q) is h =
        let first : quad_texts texts quad ≡ text_quad s = cc in
        let later : map (quad_texts texts) quads ≡ map text_quad q = cc in
        let within = h s (Contains-here s q) in
        let rest = dataset_links quads q later (λ t m. h t (Contains-there s q t m)) in
        let split : map occurrence_at (given k (numbers quad) ++ flat_map (given k) (map numbers quads)) ≡ map occurrence_at (given k (numbers quad)) ++ map occurrence_at (flat_map (given k) (map numbers quads)) = map-append occurrence_at (given k (numbers quad)) (flat_map (given k) (map numbers quads)) in
        subst (λ os. AllZip (IsOccurrence bs) os (related_in (s ∷ q) b)) (sym split)
        (go (stands k (numbers quad)) (mentions b s) (stands-mentions quad s first within) (statement_links quad s first within) rest)
      where
        go : (t u : Bool) → t ≡ u → AllZip (IsOccurrence bs) (map occurrence_at (related_nodes k (numbers quad))) (occurrences_in b s) → AllZip (IsOccurrence bs) (map occurrence_at (flat_map (given k) (map numbers quads))) (related_in q b) → AllZip (IsOccurrence bs) (map occurrence_at (cond t (related_nodes k (numbers quad)) []) ++ map occurrence_at (flat_map (given k) (map numbers quads))) (flat_map (occurrences_in b) (cond u (s ∷ mention_set q b) (mention_set q b)))
        go true true e first rest = AllZip-append (IsOccurrence bs) (map occurrence_at (related_nodes k (numbers quad))) (map occurrence_at (flat_map (given k) (map numbers quads))) (occurrences_in b s) (related_in q b) first rest
        go true false e first rest = absurd (false≢true (sym e))
        go false true e first rest = absurd (false≢true e)
        go false false e first rest = rest
