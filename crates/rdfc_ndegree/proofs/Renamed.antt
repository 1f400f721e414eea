-- Labelling does not depend on the names of blank nodes, nor on the order of statements.
use Rattle.std.proofs.Common.{◌≡◌, ◌↔◌, ℕ, List, [], ◌∷◌, ◌++◌, map, map-id, refl, sym, ap, ap₂, ◌∙◌, subst, ⊎_elim, Bool, true, if◌then◌else◌, not, filter, Contains, Option, Some, None, option_map, codes}
use Rattle.std.specs.List.{AllByRecursion, flat_map, list_any, concat}
use Rattle.std.specs.List.Sorted.{IsPermutation}
use Rattle.std.proofs.lemmas.Bool.Decides.{same_from_decides}
use Rattle.std.proofs.lemmas.List.{map-append}
use Rattle.std.proofs.lemmas.List.Sorted.{IsPermutation-sym, IsPermutation-map, Contains-permutation}
use Rattle.base_types.specs.Order.{sorted_set}
use Rattle.base_types.proofs.Lists.{Contains-here, Contains-there, Contains-cons_cases, Contains-nil, Contains-map, Contains-from_map, AllByRecursion-contains, map-map}
use Rattle.base_types.proofs.Orders.{in_order-free}
use Rattle.nquads.specs.Terms.{Blank, Term, iri, literal, blank, Statement, IsDataset}
use Rattle.nquads.specs.Renaming.{same_blank, blanks_of_term, blanks_of_graph, blanks_of, StandsIn, rename_term, rename, IsOneToOne, image, Same}
use Rattle.nquads.specs.Spelling.{iri_text}
use Rattle.nquads.specs.Lines.{term_text, graph_text, line_text, line, canonical_text}
use Rattle.nquads.specs.FirstDegree.{blanks, mentions, mention_set, mark, first_degree_hash}
use Rattle.nquads.proofs.ReadingElements.{All-from_contains, AllDiffer-map}
use Rattle.nquads.proofs.ReadingBlanks.{chosen, same_blank-true, same_blank-itself, same_blank-false, rename-rename, rename-itself, blanks_of-rename, to_blanks_in, blanks_of_term-rename, blanks_of_graph-rename}
use Rattle.nquads.proofs.ReadingRenamings.{IsDataset-rename, one_to_one-from_Same}
use Rattle.nquads.proofs.ReadingSame.{line-rename, text_carried}
use Rattle.rdfc_ndegree.specs.Nodes.{Occurrence}
use Rattle.rdfc_ndegree.specs.declared.table.Position.{Position}
use Rattle.rdfc_ndegree.specs.declared.table.Position.TheVariants as position
use Rattle.rdfc_ndegree.specs.Issuers.{number, canonical_id}
use Rattle.rdfc_ndegree.specs.Run.{RunOutcome, IsRun, MeetsTie, WorkOver, IsWithinWork, IsCanonicalIssuer}
use Rattle.rdfc_ndegree.specs.Datasets.{occurrence, occurrences_at, occurrences_in, related_in, nodes_of}
use Rattle.rdfc_ndegree.proofs.Permutations.{IsPermutation-filter, IsPermutation-flat_map, IsPermutation-from_elements, SameElements-permutation, Each-left, Each-right, Each-filter, Each-from_contains, Each-weaker, map-agree, filter-map, list_any-map}
use Rattle.rdfc_ndegree.proofs.Lawful.{same_blank-equal, blanks-all, AllDiffer-blanks, related_in-stands}
use Rattle.rdfc_ndegree.proofs.Carry.{carried, Carries, number-carried, canonical_id-carried}
use Rattle.rdfc_ndegree.proofs.RunCarry.{result_f, IsRun-carried, MeetsTie-carried, WorkOver-carried, IsWithinWork-carried, HasLabels-carried, HasLabels-inside}

-- ---- lines and texts under two labellings that agree

term_agree : (f g : Blank → List ℕ) (t : Term) → AllByRecursion (λ b. f b ≡ g b) (blanks_of_term t) → term_text f t ≡ term_text g t
term_agree f g (iri x) h = refl
term_agree f g (literal x k l) h = refl
term_agree f g (blank b) h = ap (λ (z : List ℕ). 95 ∷ 58 ∷ z) h.0

graph_agree : (f g : Blank → List ℕ) (t : Option Term) → AllByRecursion (λ b. f b ≡ g b) (blanks_of_graph t) → graph_text f t ≡ graph_text g t
graph_agree f g None h = refl
graph_agree f g (Some t) h = ap (λ (z : List ℕ). z ++ 32 ∷ []) (term_agree f g t h)

-- labels that agree on the blank nodes of a statement give one line
pub line-agree : (f g : Blank → List ℕ) (s : Statement) → AllByRecursion (λ b. f b ≡ g b) (blanks_of s) → line f s ≡ line g s
line-agree f g s h =
    let rest : AllByRecursion (λ b. f b ≡ g b) (blanks_of_term s.object ++ blanks_of_graph s.graph) = Each-right (λ b. f b ≡ g b) (blanks_of_term s.subject) (blanks_of_term s.object ++ blanks_of_graph s.graph) h in
    ap (λ (z : List ℕ). line_text z (iri_text s.predicate) (term_text f s.object) (graph_text f s.graph)) (term_agree f g s.subject (Each-left (λ b. f b ≡ g b) (blanks_of_term s.subject) (blanks_of_term s.object ++ blanks_of_graph s.graph) h))
    ∙ ap (λ (z : List ℕ). line_text (term_text g s.subject) (iri_text s.predicate) z (graph_text f s.graph)) (term_agree f g s.object (Each-left (λ b. f b ≡ g b) (blanks_of_term s.object) (blanks_of_graph s.graph) rest))
    ∙ ap (λ (z : List ℕ). line_text (term_text g s.subject) (iri_text s.predicate) (term_text g s.object) z) (graph_agree f g s.graph (Each-right (λ b. f b ≡ g b) (blanks_of_term s.object) (blanks_of_graph s.graph) rest))

-- each blank node of the statement stands in the dataset
abbrev pub InPlace : List Statement → Statement → Type 0
InPlace q s = AllByRecursion (StandsIn q) (blanks_of s)

-- each statement of a dataset stands in it with its blank nodes
pub in_place : (q : List Statement) → AllByRecursion (InPlace q) q
in_place q = Each-from_contains (InPlace q) q (λ s m. Each-from_contains (StandsIn q) (blanks_of s) (λ b n. to_blanks_in q s b m n))

-- labels that agree on the blank nodes of a dataset give one canonical text
pub text-agree : (f g : Blank → List ℕ) (q : List Statement) → ((b : Blank) → StandsIn q b → f b ≡ g b) → canonical_text f q ≡ canonical_text g q
text-agree f g q h =
    ap (λ (ls : List (List ℕ)). concat (sorted_set ls))
    (map-agree (InPlace q) (line f) (line g) (λ s p. line-agree f g s (Each-weaker (StandsIn q) (λ b. f b ≡ g b) h (blanks_of s) p)) q (in_place q))

-- ---- one statement

all_blanks : (f : Blank → Blank) (q : List Statement) → flat_map blanks_of (map (rename f) q) ≡ map f (flat_map blanks_of q)
all_blanks f [] = refl
all_blanks f (s ∷ q) = ap₂ (λ a b. a ++ b) (blanks_of-rename f s) (all_blanks f q) ∙ sym (map-append f (blanks_of s) (flat_map blanks_of q))

-- the blank nodes of a renamed dataset, in any order of its statements
blanks_moved : (f : Blank → Blank) (q r : List Statement) → IsPermutation (map (rename f) q) r → IsPermutation (map f (flat_map blanks_of q)) (flat_map blanks_of r)
blanks_moved f q r s = subst (λ l. IsPermutation l (flat_map blanks_of r)) (all_blanks f q) (IsPermutation-flat_map blanks_of (map (rename f) q) r s)

came_from : (f : Blank → Blank) (q r : List Statement) → IsPermutation (map (rename f) q) r → (b : Blank) → StandsIn r b → (a : Blank) × StandsIn q a × (f a ≡ b)
came_from f q r s b m =
    Contains-from_map f (flat_map blanks_of q) b
    (Contains-permutation (flat_map blanks_of r) (map f (flat_map blanks_of q)) b (IsPermutation-sym (map f (flat_map blanks_of q)) (flat_map blanks_of r) (blanks_moved f q r s)) m)

goes_to : (f : Blank → Blank) (q r : List Statement) → IsPermutation (map (rename f) q) r → (a : Blank) → StandsIn q a → StandsIn r (f a)
goes_to f q r s a m = Contains-permutation (map f (flat_map blanks_of q)) (flat_map blanks_of r) (f a) (blanks_moved f q r s) (Contains-map f (flat_map blanks_of q) a m)

module _ (q : List Statement) where
  pub blanks-inside : AllByRecursion (StandsIn q) (blanks q)
  blanks-inside = Each-from_contains (StandsIn q) (blanks q) (λ b m. (blanks-all q b).1 m)

module _ (f : Blank → Blank) (q : List Statement) (o : IsOneToOne f q) where
  same-renamed : (a b : Blank) → StandsIn q a → StandsIn q b → same_blank (f a) (f b) ≡ same_blank a b
  same-renamed a b m n =
      same_from_decides {P = a ≡ b} (same_blank (f a) (f b)) (same_blank a b)
      ((λ e. o a b m n (same_blank-true (f a) (f b) e)), (λ e. subst (λ z. same_blank (f a) (f z) ≡ true) e (same_blank-itself (f a))))
      (same_blank-equal a b)

  mentions-renamed : (n : Blank) (s : Statement) → StandsIn q n → InPlace q s → mentions (f n) (rename f s) ≡ mentions n s
  mentions-renamed n s d h =
      ap (list_any (same_blank (f n))) (blanks_of-rename f s)
      ∙ list_any-map (StandsIn q) f (same_blank n) (same_blank (f n)) (λ b m. same-renamed n b d m) (blanks_of s) h

  line-marked : (n : Blank) (s : Statement) → StandsIn q n → InPlace q s → line (mark (f n)) (rename f s) ≡ line (mark n) s
  line-marked n s d h =
      line-rename (mark (f n)) f s
      ∙ line-agree (λ b. mark (f n) (f b)) (mark n) s
      (Each-weaker (StandsIn q) (λ b. mark (f n) (f b) ≡ mark n b) (λ b m. ap (λ (t : Bool). if t then codes "a" else codes "z") (same-renamed n b d m)) (blanks_of s) h)

  at-renamed : (n : Blank) (p : Position) (text : List ℕ) (bs cs : List Blank) → StandsIn q n → AllByRecursion (StandsIn q) bs → cs ≡ map f bs → occurrences_at (f n) p text cs ≡ map (carried f) (occurrences_at n p text bs)
  at-renamed n p text bs cs d h e =
      ap (occurrences_at (f n) p text) e
      ∙ ap (map (occurrence p text)) (filter-map (StandsIn q) f (λ b. not (same_blank n b)) (λ b. not (same_blank (f n) b)) (λ b m. ap not (same-renamed n b d m)) bs h)
      ∙ map-map (occurrence p text) f (filter (λ b. not (same_blank n b)) bs)
      ∙ sym (map-map (carried f) (occurrence p text) (filter (λ b. not (same_blank n b)) bs))

  in-renamed : (n : Blank) (s : Statement) → StandsIn q n → InPlace q s → occurrences_in (f n) (rename f s) ≡ map (carried f) (occurrences_in n s)
  in-renamed n s d h =
      let rest : AllByRecursion (StandsIn q) (blanks_of_term s.object ++ blanks_of_graph s.graph) = Each-right (StandsIn q) (blanks_of_term s.subject) (blanks_of_term s.object ++ blanks_of_graph s.graph) h in
      let subjects : List (Occurrence Blank) = occurrences_at n position.Subject (iri_text s.predicate) (blanks_of_term s.subject) in
      let objects : List (Occurrence Blank) = occurrences_at n position.Object (iri_text s.predicate) (blanks_of_term s.object) in
      let graphs : List (Occurrence Blank) = occurrences_at n position.Graph (iri_text s.predicate) (blanks_of_graph s.graph) in
      ap₂ (λ a b. a ++ b)
      (at-renamed n position.Subject (iri_text s.predicate) (blanks_of_term s.subject) (blanks_of_term (rename_term f s.subject)) d (Each-left (StandsIn q) (blanks_of_term s.subject) (blanks_of_term s.object ++ blanks_of_graph s.graph) h) (blanks_of_term-rename f s.subject))
      (ap₂ (λ a b. a ++ b)
      (at-renamed n position.Object (iri_text s.predicate) (blanks_of_term s.object) (blanks_of_term (rename_term f s.object)) d (Each-left (StandsIn q) (blanks_of_term s.object) (blanks_of_graph s.graph) rest) (blanks_of_term-rename f s.object))
      (at-renamed n position.Graph (iri_text s.predicate) (blanks_of_graph s.graph) (blanks_of_graph (option_map (rename_term f) s.graph)) d (Each-right (StandsIn q) (blanks_of_term s.object) (blanks_of_graph s.graph) rest) (blanks_of_graph-rename f s.graph)))
      ∙ sym (map-append (carried f) subjects (objects ++ graphs) ∙ ap (λ l. map (carried f) subjects ++ l) (map-append (carried f) objects graphs))

  each-renamed : (n : Blank) (ss : List Statement) → StandsIn q n → AllByRecursion (InPlace q) ss → flat_map (occurrences_in (f n)) (map (rename f) ss) ≡ map (carried f) (flat_map (occurrences_in n) ss)
  each-renamed n [] d h = refl
  each-renamed n (s ∷ ss) d h = ap₂ (λ a b. a ++ b) (in-renamed n s d h.0) (each-renamed n ss d h.1) ∙ sym (map-append (carried f) (occurrences_in n s) (flat_map (occurrences_in n) ss))

-- ---- the nodes of a renamed dataset

module _ (digest : List ℕ → List ℕ) (f : Blank → Blank) (q r : List Statement) (o : IsOneToOne f q) (s : IsPermutation (map (rename f) q) r) where
  about-renamed : (n : Blank) → StandsIn q n → IsPermutation (map (rename f) (mention_set q n)) (mention_set r (f n))
  about-renamed n d =
      subst (λ l. IsPermutation l (mention_set r (f n)))
      (filter-map (InPlace q) (rename f) (mentions n) (mentions (f n)) (λ t h. mentions-renamed f q o n t d h) q (in_place q))
      (IsPermutation-filter (mentions (f n)) (map (rename f) q) r s)

  about_in_place : (n : Blank) → AllByRecursion (InPlace q) (mention_set q n)
  about_in_place n = Each-filter (InPlace q) (mentions n) q (in_place q)

  pub first_degree_hash-renamed : (n : Blank) → StandsIn q n → first_degree_hash digest r (f n) ≡ first_degree_hash digest q n
  first_degree_hash-renamed n d =
      let lines : map (line (mark (f n))) (map (rename f) (mention_set q n)) ≡ map (line (mark n)) (mention_set q n) =
      map-map (line (mark (f n))) (rename f) (mention_set q n)
      ∙ map-agree (InPlace q) (λ t. line (mark (f n)) (rename f t)) (line (mark n)) (λ t h. line-marked f q o n t d h) (mention_set q n) (about_in_place n) in
      let moved : IsPermutation (map (line (mark n)) (mention_set q n)) (map (line (mark (f n))) (mention_set r (f n))) =
      subst (λ l. IsPermutation l (map (line (mark (f n))) (mention_set r (f n)))) lines (IsPermutation-map (line (mark (f n))) (map (rename f) (mention_set q n)) (mention_set r (f n)) (about-renamed n d)) in
      ap (λ (ls : List (List ℕ)). digest (concat ls)) (in_order-free (map (line (mark n)) (mention_set q n)) (map (line (mark (f n))) (mention_set r (f n))) moved)

  related-renamed : (n : Blank) → StandsIn q n → IsPermutation (map (carried f) (related_in q n)) (related_in r (f n))
  related-renamed n d =
      subst (λ l. IsPermutation l (related_in r (f n))) (each-renamed f q o n (mention_set q n) d (about_in_place n))
      (IsPermutation-flat_map (occurrences_in (f n)) (map (rename f) (mention_set q n)) (mention_set r (f n)) (about-renamed n d))

  -- A renaming carries the nodes of a dataset to those of the renamed one.
  pub renamed-carries : Carries f (StandsIn q) (nodes_of digest q) (nodes_of digest r)
  renamed-carries = record {
    one_to_one = λ a b m n. same-renamed f q o a b m n;
    injective = λ a b m n e. o a b m n e;
    digest = λ text. refl;
    first = λ n d. first_degree_hash-renamed n d;
    closed = λ n d. All-from_contains (λ (o : Occurrence Blank). StandsIn q o.blank) (related_in q n) (related_in-stands q n);
    related = λ n d. related-renamed n d;
  }

  pub renamed-all : IsPermutation (map f (blanks q)) (blanks r)
  renamed-all =
      IsPermutation-from_elements (map f (blanks q)) (blanks r)
      (AllDiffer-map f (blanks q) (λ a b m n e. o a b ((blanks-all q a).1 m) ((blanks-all q b).1 n) e) (AllDiffer-blanks q)) (AllDiffer-blanks r) (λ b. (to b, fro b))
    where
      to : (b : Blank) → Contains (map f (blanks q)) b → Contains (blanks r) b
      to b m =
          let a = Contains-from_map f (blanks q) b m in
          (blanks-all r b).0 (subst (StandsIn r) a.2 (goes_to f q r s a.0 ((blanks-all q a.0).1 a.1)))

      fro : (b : Blank) → Contains (blanks r) b → Contains (map f (blanks q)) b
      fro b m =
          let a = came_from f q r s b ((blanks-all r b).1 m) in
          subst (Contains (map f (blanks q))) a.2 (Contains-map f (blanks q) a.0 ((blanks-all q a.0).0 a.1))

  pub IsRun-renamed : (x : RunOutcome Blank) → IsRun (nodes_of digest q) x → IsRun (nodes_of digest r) (result_f f x)
  IsRun-renamed = IsRun-carried f (StandsIn q) (nodes_of digest q) (nodes_of digest r) renamed-carries renamed-all (blanks-inside q)

  tie_there : MeetsTie (nodes_of digest q) → MeetsTie (nodes_of digest r)
  tie_there = MeetsTie-carried f (StandsIn q) (nodes_of digest q) (nodes_of digest r) renamed-carries renamed-all (blanks-inside q)

  work_there : (n : ℕ) → WorkOver (nodes_of digest q) n → WorkOver (nodes_of digest r) n
  work_there = WorkOver-carried f (StandsIn q) (nodes_of digest q) (nodes_of digest r) renamed-carries renamed-all (blanks-inside q)

  limit_here : (n : ℕ) → IsWithinWork (nodes_of digest r) n → IsWithinWork (nodes_of digest q) n
  limit_here = IsWithinWork-carried f (StandsIn q) (nodes_of digest q) (nodes_of digest r) renamed-carries renamed-all (blanks-inside q)

  pub HasLabels-renamed : (c : List Blank) → IsCanonicalIssuer (nodes_of digest q) c → IsCanonicalIssuer (nodes_of digest r) (map f c)
  HasLabels-renamed = HasLabels-carried f (StandsIn q) (nodes_of digest q) (nodes_of digest r) renamed-carries renamed-all (blanks-inside q)

  -- the labels are of blank nodes of the dataset
  pub labels-StandsIn : (c : List Blank) → IsCanonicalIssuer (nodes_of digest q) c → AllByRecursion (StandsIn q) c
  labels-StandsIn = HasLabels-inside f (StandsIn q) (nodes_of digest q) (nodes_of digest r) renamed-carries renamed-all (blanks-inside q)

  pub number-renamed : (c : List Blank) (b : Blank) → AllByRecursion (StandsIn q) c → StandsIn q b → number (nodes_of digest r) (map f c) (f b) ≡ number (nodes_of digest q) c b
  number-renamed c b h d = number-carried f (StandsIn q) (nodes_of digest q) (nodes_of digest r) renamed-carries c b h d

  pub canonical_text-renamed : (c : List Blank) → AllByRecursion (StandsIn q) c → canonical_text (canonical_id (nodes_of digest r) (map f c)) r ≡ canonical_text (canonical_id (nodes_of digest q) c) q
  canonical_text-renamed c h =
      sym (text_carried (canonical_id (nodes_of digest r) (map f c)) f q r (SameElements-permutation (map (rename f) q) r s))
      ∙ text-agree (λ b. canonical_id (nodes_of digest r) (map f c) (f b)) (canonical_id (nodes_of digest q) c) q
      (λ b d. canonical_id-carried f (StandsIn q) (nodes_of digest q) (nodes_of digest r) renamed-carries c b h d)

-- ---- the way back

-- the first of the blank nodes that f takes to b
undo : (Blank → Blank) → List Blank → Blank → Blank
undo f [] b = b
undo f (a ∷ bs) b = if same_blank (f a) b then a else undo f bs b

undone : (f : Blank → Blank) (bs : List Blank) (a : Blank) → ((x y : Blank) → Contains bs x → Contains bs y → f x ≡ f y → x ≡ y) → Contains bs a → undo f bs (f a) ≡ a
unfolding undo
undone f [] a o m = absurd (Contains-nil a m)
undone f (x ∷ bs) a o m =
    chosen (same_blank (f x) (f a)) x (undo f bs (f a)) a
    (λ e. o x a (Contains-here x bs) m (same_blank-true (f x) (f a) e))
    (λ e. undone f bs a (λ y z k l. o y z (Contains-there x bs y k) (Contains-there x bs z l))
    (⊎_elim (λ k. absurd (same_blank-false (f x) (f a) e (ap f k))) (λ n. n) (Contains-cons_cases x bs a m)))

module _ (f g : Blank → Blank) (q r : List Statement) (u : (b : Blank) → StandsIn q b → g (f b) ≡ b) (s : IsPermutation (map (rename f) q) r) where
  order_back : IsPermutation (map (rename g) r) q
  order_back =
      let same : map (rename g) (map (rename f) q) ≡ q =
      map-map (rename g) (rename f) q
      ∙ map-agree (InPlace q) (λ t. rename g (rename f t)) (λ t. t) (λ t h. rename-rename g f (λ b. b) t (λ b n. u b (AllByRecursion-contains (StandsIn q) (blanks_of t) b h n)) ∙ rename-itself t) q (in_place q)
      ∙ map-id q in
      IsPermutation-sym q (map (rename g) r) (subst (λ l. IsPermutation l (map (rename g) r)) same (IsPermutation-map (rename g) (map (rename f) q) r s))

  one_to_one_back : IsOneToOne g r
  one_to_one_back a b m n e =
      let x = came_from f q r s a m in
      let y = came_from f q r s b n in
      let same : x.0 ≡ y.0 = sym (u x.0 x.1) ∙ ap g x.2 ∙ e ∙ ap g (sym y.2) ∙ u y.0 y.1 in
      sym x.2 ∙ ap f same ∙ y.2

module _ (digest : List ℕ → List ℕ) (f : Blank → Blank) (q r : List Statement) (o : IsOneToOne f q) (s : IsPermutation (map (rename f) q) r) where
  undone_in : (b : Blank) → StandsIn q b → undo f (blanks q) (f b) ≡ b
  undone_in b d = undone f (blanks q) b (λ x y m n. o x y ((blanks-all q x).1 m) ((blanks-all q y).1 n)) ((blanks-all q b).0 d)

  back : Blank → Blank
  back = undo f (blanks q)

  back_one_to_one : IsOneToOne back r
  unfolding back
  back_one_to_one = one_to_one_back f (undo f (blanks q)) q r undone_in s

  back_order : IsPermutation (map (rename back) r) q
  unfolding back
  back_order = order_back f (undo f (blanks q)) q r undone_in s

  pub MeetsTie-renamed : MeetsTie (nodes_of digest q) ↔ MeetsTie (nodes_of digest r)
  MeetsTie-renamed = (tie_there digest f q r o s, tie_there digest back r q back_one_to_one back_order)

  pub WorkOver-renamed : (n : ℕ) → WorkOver (nodes_of digest q) n ↔ WorkOver (nodes_of digest r) n
  WorkOver-renamed n = (work_there digest f q r o s n, work_there digest back r q back_one_to_one back_order n)

  pub IsWithinWork-renamed : (n : ℕ) → IsWithinWork (nodes_of digest q) n ↔ IsWithinWork (nodes_of digest r) n
  IsWithinWork-renamed n = (limit_here digest back r q back_one_to_one back_order n, limit_here digest f q r o s n)

-- ---- datasets that are the same up to the names of blank nodes

-- of two datasets that are the same the renamed first is the second in another order
pub order-from_Same : (q r : List Statement) (e : Same q r) → IsDataset q → IsDataset r → IsPermutation (map (rename (image e.pairs)) q) r
order-from_Same q r e i j = IsPermutation-from_elements (map (rename (image e.pairs)) q) r (IsDataset-rename (image e.pairs) q (one_to_one-from_Same q r e) i) j e.elements

module _ (digest : List ℕ → List ℕ) (q r : List Statement) (e : Same q r) (i : IsDataset q) (j : IsDataset r) where
  pub Same-carries : Carries (image e.pairs) (StandsIn q) (nodes_of digest q) (nodes_of digest r)
  Same-carries = renamed-carries digest (image e.pairs) q r (one_to_one-from_Same q r e) (order-from_Same q r e i j)

  pub Same-first_degree_hash : (n : Blank) → StandsIn q n → first_degree_hash digest r (image e.pairs n) ≡ first_degree_hash digest q n
  Same-first_degree_hash = first_degree_hash-renamed digest (image e.pairs) q r (one_to_one-from_Same q r e) (order-from_Same q r e i j)

  pub Same-IsRun : (x : RunOutcome Blank) → IsRun (nodes_of digest q) x → IsRun (nodes_of digest r) (result_f (image e.pairs) x)
  Same-IsRun = IsRun-renamed digest (image e.pairs) q r (one_to_one-from_Same q r e) (order-from_Same q r e i j)

  pub Same-MeetsTie : MeetsTie (nodes_of digest q) ↔ MeetsTie (nodes_of digest r)
  Same-MeetsTie = MeetsTie-renamed digest (image e.pairs) q r (one_to_one-from_Same q r e) (order-from_Same q r e i j)

  pub Same-WorkOver : (n : ℕ) → WorkOver (nodes_of digest q) n ↔ WorkOver (nodes_of digest r) n
  Same-WorkOver = WorkOver-renamed digest (image e.pairs) q r (one_to_one-from_Same q r e) (order-from_Same q r e i j)

  pub Same-IsWithinWork : (n : ℕ) → IsWithinWork (nodes_of digest q) n ↔ IsWithinWork (nodes_of digest r) n
  Same-IsWithinWork = IsWithinWork-renamed digest (image e.pairs) q r (one_to_one-from_Same q r e) (order-from_Same q r e i j)

  pub Same-HasLabels : (c : List Blank) → IsCanonicalIssuer (nodes_of digest q) c → IsCanonicalIssuer (nodes_of digest r) (map (image e.pairs) c)
  Same-HasLabels = HasLabels-renamed digest (image e.pairs) q r (one_to_one-from_Same q r e) (order-from_Same q r e i j)

  pub Same-labels_inside : (c : List Blank) → IsCanonicalIssuer (nodes_of digest q) c → AllByRecursion (StandsIn q) c
  Same-labels_inside = labels-StandsIn digest (image e.pairs) q r (one_to_one-from_Same q r e) (order-from_Same q r e i j)

  -- a blank node keeps its number
  pub Same-number : (c : List Blank) (b : Blank) → IsCanonicalIssuer (nodes_of digest q) c → Contains (blanks q) b → number (nodes_of digest r) (map (image e.pairs) c) (image e.pairs b) ≡ number (nodes_of digest q) c b
  Same-number c b h m = number-renamed digest (image e.pairs) q r (one_to_one-from_Same q r e) (order-from_Same q r e i j) c b (Same-labels_inside c h) ((blanks-all q b).1 m)

  -- and the canonical text is the same
  pub Same-canonical_text : (c : List Blank) → IsCanonicalIssuer (nodes_of digest q) c → canonical_text (canonical_id (nodes_of digest r) (map (image e.pairs) c)) r ≡ canonical_text (canonical_id (nodes_of digest q) c) q
  Same-canonical_text c h = canonical_text-renamed digest (image e.pairs) q r (one_to_one-from_Same q r e) (order-from_Same q r e i j) c (Same-labels_inside c h)
