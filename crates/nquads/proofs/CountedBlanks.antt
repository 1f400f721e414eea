-- The blank nodes of a dataset and the numbers of their texts.
use Rattle.std.proofs.Common.{◌≡◌, ℕ, ◌<◌, ◌≤◌, List, [], ◌∷◌, ◌++◌, length, map, get_or, Bool, true, false, All, Contains, Option, Some, None, IfSome, option_map, refl, sym, ap, ◌∙◌, subst, inl, inr, arith}
use Rattle.std.proofs.lemmas.Option.{none-some, same_Some}
use Rattle.std.proofs.lemmas.List.Elements.{All-contains, Contains-append_left, Contains-append_right, Contains-append_cases}
use Rattle.base_types.specs.Sets.{AllDiffer, SameElements}
use Rattle.base_types.proofs.Lists.{Contains-nil, Contains-here, Contains-there, Contains-cons_cases, Contains-map, Contains-from_map, Contains-flat_map, Contains-from_flat_map, SameElements-refl}
use Rattle.term_store.specs.Store.{text_at, begins_blank}
use Rattle.term_store.specs.declared.store.TermId.{TermId}
use Rattle.term_store.specs.declared.statements.Quad.{Quad}
use Rattle.term_store.proofs.StoreLemmas.{text_at-one}
use Rattle.nquads.specs.Terms.{Blank, Term, iri, literal, blank, Statement}
use Rattle.nquads.specs.Renaming.{blanks_of_term, blanks_of_graph, blanks_of, StandsIn}
use Rattle.nquads.specs.Spelling.{blank_text, spelling, text_quad}
use Rattle.nquads.specs.Stored.{quad_texts, IsKnown}
use Rattle.nquads.specs.Reading.{SaysDataset, StandsInText, HasMoreBlanks}
use Rattle.nquads.specs.declared.quads.TextQuad.{TextQuad}
use Rattle.nquads.specs.Internal.Storing.{blank_id, graph_blank_id, quad_blank_ids, blank_ids, HasMoreIds, IsSet}
use Rattle.nquads.proofs.ReadingElements.{All-from_contains}
use Rattle.nquads.proofs.ReadingTerms.{blank_text_one_reading}
use Rattle.nquads.proofs.ReadingBlanks.{to_blanks_in, from_blanks_in}
use Rattle.nquads.proofs.Choices.{choose, zip_length, zip_differ, zip_all}
use Rattle.nquads.proofs.Pigeonhole.{no_more}
use Rattle.nquads.proofs.TextSays.{stands_in}
use Rattle.nquads.proofs.StoringLemmas.{All-same_elements}

-- ---- one term

-- a number that stands for the blank node
abbrev pub Names : List (List ℕ) → ℕ → Blank → Type 0
Names texts i b = get_or texts i [] ≡ blank_text b

term_id : (texts : List (List ℕ)) (id : TermId) (t : Term) (b : Blank) → text_at texts id ≡ spelling t → Contains (blanks_of_term t) b → Contains (blank_id texts id) id.index × Names texts id.index b
term_id texts id (iri x) b e m = absurd (Contains-nil b m)
term_id texts id (literal x d l) b e m = absurd (Contains-nil b m)
term_id texts id (blank c) b e m =
    let same : c ≡ b = elim (Contains-cons_cases c [] b m) [ inl s ↦ s | inr n ↦ absurd (Contains-nil b n) ] in
    (rw e (Contains-here id.index []), e ∙ ap blank_text same)

-- the blank node of a number
record Named (texts : List (List ℕ)) (bs : List Blank) (i : ℕ) : Type 0 where
  node : Blank
  within : Contains bs node
  names : Names texts i node

id_term : (texts : List (List ℕ)) (id : TermId) (t : Term) (i : ℕ) → text_at texts id ≡ spelling t → Contains (blank_id texts id) i → Named texts (blanks_of_term t) i
id_term texts id (iri x) i e m = absurd (Contains-nil i (rw e at m))
id_term texts id (literal x d l) i e m = absurd (Contains-nil i (rw e at m))
id_term texts id (blank c) i e m =
    let there : Contains (id.index ∷ []) i = rw e at m in
    let same : id.index ≡ i = elim (Contains-cons_cases id.index [] i there) [ inl s ↦ s | inr n ↦ absurd (Contains-nil i n) ] in
    record { node = c; within = Contains-here c []; names = ap (λ (n : ℕ). get_or texts n []) (sym same) ∙ e }

-- ---- one statement

-- the number of a blank node, among these
record Numbered (texts : List (List ℕ)) (ids : List ℕ) (b : Blank) : Type 0 where
  number : ℕ
  within : Contains ids number
  names : Names texts number b

graph_id : (texts : List (List ℕ)) (g : Option TermId) (t : Option Term) (b : Blank) → option_map (text_at texts) g ≡ option_map spelling t → Contains (blanks_of_graph t) b → Numbered texts (graph_blank_id texts g) b
graph_id texts None None b e m = absurd (Contains-nil b m)
graph_id texts None (Some t) b e m = absurd (none-some (spelling t) e)
graph_id texts (Some id) None b e m = absurd (none-some (text_at texts id) (sym e))
graph_id texts (Some id) (Some t) b e m =
    let r = term_id texts id t b (same_Some (text_at texts id) (spelling t) e) m in
    record { number = id.index; within = r.0; names = r.1 }

id_graph : (texts : List (List ℕ)) (g : Option TermId) (t : Option Term) (i : ℕ) → option_map (text_at texts) g ≡ option_map spelling t → Contains (graph_blank_id texts g) i → Named texts (blanks_of_graph t) i
id_graph texts None None i e m = absurd (Contains-nil i m)
id_graph texts None (Some t) i e m = absurd (none-some (spelling t) e)
id_graph texts (Some id) None i e m = absurd (none-some (text_at texts id) (sym e))
id_graph texts (Some id) (Some t) i e m = id_term texts id t i (same_Some (text_at texts id) (spelling t) e) m

statement_id : (texts : List (List ℕ)) (q : Quad) (s : Statement) (b : Blank) → quad_texts texts q ≡ text_quad s → Contains (blanks_of s) b → Numbered texts (quad_blank_ids texts q) b
statement_id texts q s b e m =
    let first = blank_id texts q.subject in
    let second = blank_id texts q.object in
    let third = graph_blank_id texts q.graph in
    elim (Contains-append_cases (blanks_of_term s.subject) (blanks_of_term s.object ++ blanks_of_graph s.graph) b m) [
      | inl n ↦
          let r = term_id texts q.subject s.subject b (ap (λ (t : TextQuad). t.subject) e) n in
          record { number = (q.subject).index; within = Contains-append_left first (second ++ third) (q.subject).index r.0; names = r.1 }
      | inr n ↦ elim (Contains-append_cases (blanks_of_term s.object) (blanks_of_graph s.graph) b n) [
        | inl k ↦
            let r = term_id texts q.object s.object b (ap (λ (t : TextQuad). t.object) e) k in
            record { number = (q.object).index; within = Contains-append_right first (second ++ third) (q.object).index (Contains-append_left second third (q.object).index r.0); names = r.1 }
        | inr k ↦
            let r = graph_id texts q.graph s.graph b (ap (λ (t : TextQuad). t.graph) e) k in
            record { number = r.number; within = Contains-append_right first (second ++ third) r.number (Contains-append_right second third r.number r.within); names = r.names }
      ]
    ]

id_statement : (texts : List (List ℕ)) (q : Quad) (s : Statement) (i : ℕ) → quad_texts texts q ≡ text_quad s → Contains (quad_blank_ids texts q) i → Named texts (blanks_of s) i
id_statement texts q s i e m =
    let first = blanks_of_term s.subject in
    let second = blanks_of_term s.object in
    let third = blanks_of_graph s.graph in
    elim (Contains-append_cases (blank_id texts q.subject) (blank_id texts q.object ++ graph_blank_id texts q.graph) i m) [
      | inl n ↦
          let r = id_term texts q.subject s.subject i (ap (λ (t : TextQuad). t.subject) e) n in
          record { node = r.node; within = Contains-append_left first (second ++ third) r.node r.within; names = r.names }
      | inr n ↦ elim (Contains-append_cases (blank_id texts q.object) (graph_blank_id texts q.graph) i n) [
        | inl k ↦
            let r = id_term texts q.object s.object i (ap (λ (t : TextQuad). t.object) e) k in
            record { node = r.node; within = Contains-append_right first (second ++ third) r.node (Contains-append_left second third r.node r.within); names = r.names }
        | inr k ↦
            let r = id_graph texts q.graph s.graph i (ap (λ (t : TextQuad). t.graph) e) k in
            record { node = r.node; within = Contains-append_right first (second ++ third) r.node (Contains-append_right second third r.node r.within); names = r.names }
      ]
    ]

-- ---- a dataset

-- each blank node has its number
blank_number : (texts : List (List ℕ)) (quads : List Quad) (d : List Statement) → SameElements (map (quad_texts texts) quads) (map text_quad d) → (b : Blank) → StandsIn d b → Numbered texts (blank_ids texts quads) b
blank_number texts quads d same b n =
    let s = from_blanks_in d b n in
    let q = Contains-from_map (quad_texts texts) quads (text_quad s.statement) ((same (text_quad s.statement)).1 (Contains-map text_quad d s.statement s.within)) in
    let r = statement_id texts q.0 s.statement b q.2 s.blank_node in
    record { number = r.number; within = Contains-flat_map (quad_blank_ids texts) quads q.0 r.number q.1 r.within; names = r.names }

-- and each number its blank node
number_blank : (texts : List (List ℕ)) (quads : List Quad) (d : List Statement) → SameElements (map (quad_texts texts) quads) (map text_quad d) → (i : ℕ) → Contains (blank_ids texts quads) i → (b : Blank) × StandsIn d b × Names texts i b
number_blank texts quads d same i n =
    let q = Contains-from_flat_map (quad_blank_ids texts) quads i n in
    let s = Contains-from_map text_quad d (quad_texts texts q.0) ((same (quad_texts texts q.0)).0 (Contains-map (quad_texts texts) quads q.0 q.1)) in
    let r = id_statement texts q.0 s.0 i (sym s.2) q.2 in
    (r.node, to_blanks_in d s.0 r.node s.1 r.within, r.names)

-- the numbers are those of the store
id_known : (texts : List (List ℕ)) (id : TermId) (i : ℕ) → id.index < length texts → Contains (blank_id texts id) i → i < length texts
id_known texts id i l m = go (begins_blank (text_at texts id)) refl
  where
    go : (b : Bool) → begins_blank (text_at texts id) ≡ b → i < length texts
    go true e =
        let there : Contains (id.index ∷ []) i = rw e at m in
        elim (Contains-cons_cases id.index [] i there) [ inl s ↦ subst (λ (n : ℕ). n < length texts) s l | inr n ↦ absurd (Contains-nil i n) ]
    go false e = absurd (Contains-nil i (rw e at m))

graph_known : (texts : List (List ℕ)) (g : Option TermId) (i : ℕ) → IfSome g (λ g. g.index < length texts) → Contains (graph_blank_id texts g) i → i < length texts
graph_known texts None i l m = absurd (Contains-nil i m)
graph_known texts (Some id) i l m = id_known texts id i l m

number_known : (texts : List (List ℕ)) (quads : List Quad) (i : ℕ) → All (IsKnown texts) quads → Contains (blank_ids texts quads) i → i < length texts
number_known texts quads i a n =
    let q = Contains-from_flat_map (quad_blank_ids texts) quads i n in
    let k = All-contains (IsKnown texts) quads q.0 a q.1 in
    elim (Contains-append_cases (blank_id texts (q.0).subject) (blank_id texts (q.0).object ++ graph_blank_id texts (q.0).graph) i q.2) [
      | inl m ↦ id_known texts (q.0).subject i k.subject m
      | inr m ↦ elim (Contains-append_cases (blank_id texts (q.0).object) (graph_blank_id texts (q.0).graph) i m) [
        | inl n ↦ id_known texts (q.0).object i k.object n
        | inr n ↦ graph_known texts (q.0).graph i k.graph n
      ]
    ]

-- so each blank node of the dataset has a number of the store
pub number_of_blank : (texts : List (List ℕ)) (quads : List Quad) (d : List Statement) → All (IsKnown texts) quads → map (quad_texts texts) quads ≡ map text_quad d → (b : Blank) → StandsIn d b → (id : TermId) × (id.index < length texts) × (text_at texts id ≡ blank_text b)
number_of_blank texts quads d known is b stands =
    let same : SameElements (map (quad_texts texts) quads) (map text_quad d) = subst (λ ts. SameElements ts (map text_quad d)) (sym is) (SameElements-refl (map text_quad d)) in
    let n = blank_number texts quads d same b stands in
    let id : TermId = record { index = n.number } in
    (id, number_known texts quads n.number known n.within, n.names)

-- ---- the limit

abbrev IsNumberOf : List (List ℕ) → List ℕ → Blank → ℕ → Type 0
IsNumberOf texts ids b i = Contains ids i × Names texts i b

-- no more blank nodes than numbers
pub few_blanks : (bytes : List ℕ) (texts : List (List ℕ)) (quads : List Quad) (d : List Statement) (ids : List ℕ) → SaysDataset bytes d → SameElements (map (quad_texts texts) quads) (map text_quad d) → SameElements ids (blank_ids texts quads) → length ids ≤ 4096 → HasMoreBlanks bytes 4096 → ⊥
few_blanks bytes texts quads d ids says same each few h =
    let c = choose (IsNumberOf texts ids) h.some (All-from_contains (λ b. (i : ℕ) × IsNumberOf texts ids b i) h.some numbers) in
    let size = zip_length (IsNumberOf texts ids) h.some c.0 c.1 in
    let differ = zip_differ (IsNumberOf texts ids) (λ a b i p q. blank_text_one_reading a b (sym p.1 ∙ q.1)) h.some c.0 c.1 h.differ in
    let all = zip_all (IsNumberOf texts ids) (Contains ids) (λ b i p. p.0) h.some c.0 c.1 in
    let most = no_more c.0 ids differ (λ i m. All-contains (Contains ids) c.0 i all m) in
    let many = h.more in
    absurd (omega (arith, size, most, few, many))
  where
    numbers : (b : Blank) → Contains h.some b → (i : ℕ) × IsNumberOf texts ids b i
    numbers b m =
        let s = from_blanks_in h.statements b (All-contains (StandsIn h.statements) h.some b h.stand m) in
        let t = stands_in bytes d s.statement says (All-contains (StandsInText bytes) h.statements s.statement h.stand_in_text s.within) in
        let r = blank_number texts quads d same b (to_blanks_in d s.statement b t s.blank_node) in
        (r.number, ((each r.number).1 r.within, r.names))

abbrev IsBlankOf : List (List ℕ) → List Statement → ℕ → Blank → Type 0
IsBlankOf texts d i b = StandsIn d b × Names texts i b × (i < length texts)

-- as many blank nodes as numbers
pub more_blanks : (bytes : List ℕ) (texts : List (List ℕ)) (quads : List Quad) (d : List Statement) → AllDiffer texts → All (IsKnown texts) quads → SaysDataset bytes d → SameElements (map (quad_texts texts) quads) (map text_quad d) → HasMoreIds texts quads 4096 → HasMoreBlanks bytes 4096
more_blanks bytes texts quads d apart known says same h =
    let c = choose (IsBlankOf texts d) h.some (All-from_contains (λ i. (b : Blank) × IsBlankOf texts d i b) h.some blanks) in
    let size = zip_length (IsBlankOf texts d) h.some c.0 c.1 in
    let many = h.more in
    record {
      statements = d;
      some = c.0;
      differ = zip_differ (IsBlankOf texts d) (λ i j b p q. text_at-one texts apart i j p.2 q.2 (p.1 ∙ sym q.1)) h.some c.0 c.1 h.differ;
      more = omega (arith, size, many);
      stand = zip_all (IsBlankOf texts d) (StandsIn d) (λ i b p. p.0) h.some c.0 c.1;
      stand_in_text = All-from_contains (StandsInText bytes) d (λ s m. says.statements s m);
    }
  where
    blanks : (i : ℕ) → Contains h.some i → (b : Blank) × IsBlankOf texts d i b
    blanks i m =
        let n = All-contains (Contains (blank_ids texts quads)) h.some i h.among m in
        let r = number_blank texts quads d same i n in
        (r.0, (r.1, r.2, number_known texts quads i known n))

-- ---- a set of statements

-- more numbers are mentioned, seen through the same statements with repeats
pub more_ids : (texts : List (List ℕ)) (all set slice : List Quad) (ids : List ℕ) (n : ℕ) → SameElements set all → slice ≡ set → SameElements ids (blank_ids texts slice) → AllDiffer ids → n ≡ length ids → 4096 < n → HasMoreIds texts all 4096
more_ids texts all set slice ids n same view each differ e l = record {
  some = ids;
  differ = differ;
  more = omega (arith, e, l);
  among = All-from_contains (Contains (blank_ids texts all)) ids there;
}
  where
    there : (i : ℕ) → Contains ids i → Contains (blank_ids texts all) i
    there i m =
        let q = Contains-from_flat_map (quad_blank_ids texts) slice i ((each i).0 m) in
        Contains-flat_map (quad_blank_ids texts) all q.0 i ((same q.0).0 (subst (λ (qs : List Quad). Contains qs q.0) view q.1)) q.2

-- neither too many statements nor too many blank nodes
pub is_set : (texts : List (List ℕ)) (all set slice : List Quad) (ids : List ℕ) (m n : ℕ) → SameElements set all → slice ≡ set → SameElements ids (blank_ids texts slice) → m ≡ length set → m ≤ 20000 → n ≡ length ids → n ≤ 4096 → IsSet texts all set
is_set texts all set slice ids m n same view each em lm en ln = record {
  same = same;
  few = omega (arith, em, lm);
  ids = ids;
  ids_same = subst (λ (qs : List Quad). SameElements ids (blank_ids texts qs)) view each;
  few_ids = omega (arith, en, ln);
}

-- the statements of the set are known
pub set_known : (texts : List (List ℕ)) (all set slice : List Quad) → SameElements set all → slice ≡ set → All (IsKnown texts) all → All (IsKnown texts) slice
set_known texts all set slice same view a = All-same_elements (IsKnown texts) slice all (subst (λ (qs : List Quad). SameElements qs all) (sym view) same) a
