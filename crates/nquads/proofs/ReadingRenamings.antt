-- To be the same up to the names of blank nodes is an equivalence.
use Rattle.std.proofs.Common.{◌≡◌, List, [], ◌∷◌, map, All, Contains, refl, sym, ap, ◌∙◌, subst, inl, inr, Option, Some, None, IfSome, option_map}
use Rattle.std.proofs.lemmas.List.Elements.{All-contains}
use Rattle.std.specs.List.{flat_map}
use Rattle.base_types.specs.Sets.{AllDiffer, SameElements}
use Rattle.nquads.specs.Terms.{Blank, Term, iri, literal, blank, Statement, IsStatement, IsTerm, IsResource, IsDataset}
use Rattle.nquads.specs.Renaming.{same_blank, blanks_of, rename_term, rename, Pair, IsRenaming, image, Same, IsOneToOne}
use Rattle.base_types.proofs.Lists.{Contains-nil, Contains-here, Contains-there, Contains-cons_cases, Contains-map, Contains-from_map, SameElements-trans}
use Rattle.nquads.proofs.ReadingElements.{All-from_contains, AllDiffer-head, AllDiffer-tail, AllDiffer-map}
use Rattle.nquads.proofs.ReadingLines.{statement_from_renamed}
use Rattle.nquads.proofs.ReadingBlanks.{chosen, same_blank-true, same_blank-false, rename-rename, rename-itself, rename-agree, blanks_of-rename, distinct, distinct_keeps, from_distinct, AllDiffer-distinct, Stands, to_blanks_in, from_blanks_in}

-- ---- a renaming made of a map of blank nodes

along : (Blank → Blank) → List Blank → List Pair
along h [] = []
along h (b ∷ bs) = record { from = b; to = h b } ∷ along h bs

along_from : (h : Blank → Blank) (bs : List Blank) → map (λ (p : Pair). p.from) (along h bs) ≡ bs
unfolding along
along_from h [] = refl
along_from h (b ∷ bs) = ap (λ (z : List Blank). b ∷ z) (along_from h bs)

along_to : (h : Blank → Blank) (bs : List Blank) → map (λ (p : Pair). p.to) (along h bs) ≡ map h bs
unfolding along
along_to h [] = refl
along_to h (b ∷ bs) = ap (λ (z : List Blank). h b ∷ z) (along_to h bs)

image_along : (h : Blank → Blank) (bs : List Blank) (b : Blank) → Contains bs b → image (along h bs) b ≡ h b
unfolding along
image_along h [] b m = absurd (Contains-nil b m)
image_along h (c ∷ cs) b m =
    chosen (same_blank c b) (h c) (image (along h cs) b) (h b)
    (λ e. ap h (same_blank-true c b e))
    (λ e. image_along h cs b (elim (Contains-cons_cases c cs b m) [ inl k ↦ absurd (same_blank-false c b e k) | inr n ↦ n ]))

-- no two blank nodes of the dataset are sent to one
abbrev pub OneToOneOn : (Blank → Blank) → List Statement → Type 0
OneToOneOn h q = (a b : Blank) → Stands q a → Stands q b → h a ≡ h b → a ≡ b

same_maps : (f g : Blank → Blank) (q : List Statement) → ((b : Blank) → Stands q b → f b ≡ g b) → (t : Statement) → Contains (map (rename f) q) t → Contains (map (rename g) q) t
same_maps f g q p t m =
    let r = Contains-from_map (rename f) q t m in
    let same : rename g r.0 ≡ t = rename-agree g f r.0 (λ b n. sym (p b (record { statement = r.0; within = r.1; blank_node = n }))) ∙ r.2 in
    subst (λ (z : Statement). Contains (map (rename g) q) z) same (Contains-map (rename g) q r.0 r.1)

-- A map of blank nodes that is one-to-one on a dataset leaves it the same up to their names.
pub Same-from_map : (h : Blank → Blank) (q r : List Statement) → OneToOneOn h q → SameElements (map (rename h) q) r → Same q r
Same-from_map h q r o e =
    let bs = distinct (flat_map blanks_of q) in
    let named : (b : Blank) → Stands q b → Contains bs b = λ b s. distinct_keeps (flat_map blanks_of q) b (to_blanks_in q s.statement b s.within s.blank_node) in
    let agrees : (b : Blank) → Stands q b → image (along h bs) b ≡ h b = λ b s. image_along h bs b (named b s) in
    record {
      pairs = along h bs;
      renaming = record {
        sources = subst (λ (z : List Blank). AllDiffer z) (sym (along_from h bs)) (AllDiffer-distinct (flat_map blanks_of q));
        targets = subst (λ (z : List Blank). AllDiffer z) (sym (along_to h bs))
            (AllDiffer-map h bs (λ a b m n k. o a b (from_blanks_in q a (from_distinct (flat_map blanks_of q) a m)) (from_blanks_in q b (from_distinct (flat_map blanks_of q) b n)) k) (AllDiffer-distinct (flat_map blanks_of q)));
      };
      names = All-from_contains (λ (s : Statement). All (Contains (map (λ (p : Pair). p.from) (along h bs))) (blanks_of s)) q
          (λ s m. All-from_contains (Contains (map (λ (p : Pair). p.from) (along h bs))) (blanks_of s)
          (λ b n. subst (λ (z : List Blank). Contains z b) (sym (along_from h bs)) (named b (record { statement = s; within = m; blank_node = n }))));
      elements = SameElements-trans (map (rename (image (along h bs))) q) (map (rename h) q) r
          (λ t. (same_maps (image (along h bs)) h q agrees t, same_maps h (image (along h bs)) q (λ b s. sym (agrees b s)) t)) e;
    }

-- ---- what a renaming does, and how it is undone

image_at : (r : List Pair) (p : Pair) → AllDiffer (map (λ (x : Pair). x.from) r) → Contains r p → image r p.from ≡ p.to
image_at [] p a m = absurd (Contains-nil p m)
image_at (x ∷ xs) p a m =
    chosen (same_blank x.from p.from) x.to (image xs p.from) p.to
    (λ e. elim (Contains-cons_cases x xs p m) [
      | inl k ↦ ap (λ (z : Pair). z.to) k
      | inr n ↦ absurd (AllDiffer-head x.from (map (λ (z : Pair). z.from) xs) a (subst (λ (z : Blank). Contains (map (λ (y : Pair). y.from) xs) z) (sym (same_blank-true x.from p.from e)) (Contains-map (λ (z : Pair). z.from) xs p n)))
    ])
    (λ e. elim (Contains-cons_cases x xs p m) [
      | inl k ↦ absurd (same_blank-false x.from p.from e (ap (λ (z : Pair). z.from) k))
      | inr n ↦ image_at xs p (AllDiffer-tail x.from (map (λ (z : Pair). z.from) xs) a) n
    ])

swap : Pair → Pair
swap p = record { from = p.to; to = p.from }

-- the renaming the other way round
pub back : List Pair → List Pair
back [] = []
back (p ∷ ps) = swap p ∷ back ps

back_from : (r : List Pair) → map (λ (p : Pair). p.from) (back r) ≡ map (λ (p : Pair). p.to) r
unfolding back swap
back_from [] = refl
back_from (p ∷ ps) = ap (λ (z : List Blank). p.to ∷ z) (back_from ps)

back-contains : (r : List Pair) (p : Pair) → Contains r p → Contains (back r) (swap p)
unfolding back
back-contains [] p m = absurd (Contains-nil p m)
back-contains (x ∷ xs) p m =
    elim (Contains-cons_cases x xs p m) [
      | inl e ↦ subst (λ (z : Pair). Contains (swap x ∷ back xs) z) (ap swap e) (Contains-here (swap x) (back xs))
      | inr n ↦ Contains-there (swap x) (back xs) (swap p) (back-contains xs p n)
    ]

-- the renaming backwards undoes it
pub image_back : (r : List Pair) (b : Blank) → IsRenaming r → Contains (map (λ (p : Pair). p.from) r) b → image (back r) (image r b) ≡ b
unfolding swap
image_back r b i m =
    let found = Contains-from_map (λ (p : Pair). p.from) r b m in
    let p = found.0 in
    let to : image r b ≡ p.to = ap (image r) (sym found.2) ∙ image_at r p i.sources found.1 in
    let undone : image (back r) p.to ≡ p.from = image_at (back r) (swap p) (subst (λ (z : List Blank). AllDiffer z) (sym (back_from r)) i.targets) (back-contains r p found.1) in
    ap (image (back r)) to ∙ undone ∙ found.2

-- a renaming names each blank node of its dataset
pub named_at : (q r : List Statement) (e : Same q r) (b : Blank) → Stands q b → Contains (map (λ (p : Pair). p.from) e.pairs) b
named_at q r e b s =
    All-contains (Contains (map (λ (p : Pair). p.from) e.pairs)) (blanks_of s.statement) b
    (All-contains (λ (t : Statement). All (Contains (map (λ (p : Pair). p.from) e.pairs)) (blanks_of t)) q s.statement e.names s.within) s.blank_node

undone_at : (q r : List Statement) (e : Same q r) (b : Blank) → Stands q b → image (back e.pairs) (image e.pairs b) ≡ b
undone_at q r e b s = image_back e.pairs b e.renaming (named_at q r e b s)

-- a renaming is one to one on its dataset
pub Same-one_to_one : (q r : List Statement) (e : Same q r) → OneToOneOn (image e.pairs) q
Same-one_to_one q r e a b s t k = sym (undone_at q r e a s) ∙ ap (image (back e.pairs)) k ∙ undone_at q r e b t

-- each blank node of the renamed dataset comes from one
came_from : (h : Blank → Blank) (q r : List Statement) → SameElements (map (rename h) q) r → (c : Blank) → Stands r c → (b : Blank) × Stands q b × (h b ≡ c)
came_from h q r e c s =
    let found = Contains-from_map (rename h) q s.statement ((e s.statement).1 s.within) in
    let among : Contains (map h (blanks_of found.0)) c = subst (λ (z : List Blank). Contains z c) (blanks_of-rename h found.0) (subst (λ (z : Statement). Contains (blanks_of z) c) (sym found.2) s.blank_node) in
    let origin = Contains-from_map h (blanks_of found.0) c among in
    (origin.0, record { statement = found.0; within = found.1; blank_node = origin.1 }, origin.2)

-- ---- an equivalence

-- equal sets are the same
pub Same-from_elements : (q r : List Statement) → SameElements q r → Same q r
Same-from_elements q r e =
    Same-from_map (λ b. b) q r (λ a b s t k. k)
    (SameElements-trans (map (rename (λ b. b)) q) q r (λ t. (to t, fro t)) e)
  where
    to : (t : Statement) → Contains (map (rename (λ b. b)) q) t → Contains q t
    to t m = let found = Contains-from_map (rename (λ b. b)) q t m in subst (λ (z : Statement). Contains q z) (sym (rename-itself found.0) ∙ found.2) found.1

    fro : (t : Statement) → Contains q t → Contains (map (rename (λ b. b)) q) t
    fro t m = subst (λ (z : Statement). Contains (map (rename (λ b. b)) q) z) (rename-itself t) (Contains-map (rename (λ b. b)) q t m)

-- a dataset is the same as itself
pub Same-refl : (q : List Statement) → Same q q
Same-refl q = Same-from_elements q q (λ t. ((λ m. m), (λ m. m)))

-- the same the other way round
pub Same-sym : (q r : List Statement) → Same q r → Same r q
Same-sym q r e =
    Same-from_map (image (back e.pairs)) r q one (λ t. (to t, fro t))
  where
    one : OneToOneOn (image (back e.pairs)) r
    one c d s t k =
        let b = came_from (image e.pairs) q r e.elements c s in
        let a = came_from (image e.pairs) q r e.elements d t in
        let left : image (back e.pairs) c ≡ b.0 = ap (image (back e.pairs)) (sym b.2) ∙ undone_at q r e b.0 b.1 in
        let right : image (back e.pairs) d ≡ a.0 = ap (image (back e.pairs)) (sym a.2) ∙ undone_at q r e a.0 a.1 in
        sym b.2 ∙ ap (image e.pairs) (sym left ∙ k ∙ right) ∙ a.2

    undone : (s : Statement) → Contains q s → rename (image (back e.pairs)) (rename (image e.pairs) s) ≡ s
    undone s m = rename-rename (image (back e.pairs)) (image e.pairs) (λ b. b) s (λ b n. undone_at q r e b (record { statement = s; within = m; blank_node = n })) ∙ rename-itself s

    to : (t : Statement) → Contains (map (rename (image (back e.pairs))) r) t → Contains q t
    to t m =
        let found = Contains-from_map (rename (image (back e.pairs))) r t m in
        let origin = Contains-from_map (rename (image e.pairs)) q found.0 ((e.elements found.0).1 found.1) in
        let same : origin.0 ≡ t = sym (undone origin.0 origin.1) ∙ ap (rename (image (back e.pairs))) origin.2 ∙ found.2 in
        subst (λ (z : Statement). Contains q z) same origin.1

    fro : (t : Statement) → Contains q t → Contains (map (rename (image (back e.pairs))) r) t
    fro t m =
        subst (λ (z : Statement). Contains (map (rename (image (back e.pairs))) r) z) (undone t m)
        (Contains-map (rename (image (back e.pairs))) r (rename (image e.pairs) t) ((e.elements (rename (image e.pairs) t)).0 (Contains-map (rename (image e.pairs)) q t m)))

-- the same as the same
pub Same-trans : (q r u : List Statement) → Same q r → Same r u → Same q u
Same-trans q r u e k =
    Same-from_map (λ b. image k.pairs (image e.pairs b)) q u one (λ t. (to t, fro t))
  where
    moved : (b : Blank) → Stands q b → Stands r (image e.pairs b)
    moved b s = record {
      statement = rename (image e.pairs) s.statement;
      within = (e.elements (rename (image e.pairs) s.statement)).0 (Contains-map (rename (image e.pairs)) q s.statement s.within);
      blank_node = subst (λ (z : List Blank). Contains z (image e.pairs b)) (sym (blanks_of-rename (image e.pairs) s.statement)) (Contains-map (image e.pairs) (blanks_of s.statement) b s.blank_node);
    }

    one : OneToOneOn (λ b. image k.pairs (image e.pairs b)) q
    one a b s t m = Same-one_to_one q r e a b s t (Same-one_to_one r u k (image e.pairs a) (image e.pairs b) (moved a s) (moved b t) m)

    twice : (s : Statement) → rename (image k.pairs) (rename (image e.pairs) s) ≡ rename (λ b. image k.pairs (image e.pairs b)) s
    twice s = rename-rename (image k.pairs) (image e.pairs) (λ b. image k.pairs (image e.pairs b)) s (λ b n. refl)

    to : (t : Statement) → Contains (map (rename (λ b. image k.pairs (image e.pairs b))) q) t → Contains u t
    to t m =
        let found = Contains-from_map (rename (λ b. image k.pairs (image e.pairs b))) q t m in
        let mid : Contains r (rename (image e.pairs) found.0) = (e.elements (rename (image e.pairs) found.0)).0 (Contains-map (rename (image e.pairs)) q found.0 found.1) in
        let last : Contains u (rename (image k.pairs) (rename (image e.pairs) found.0)) = (k.elements (rename (image k.pairs) (rename (image e.pairs) found.0))).0 (Contains-map (rename (image k.pairs)) r (rename (image e.pairs) found.0) mid) in
        subst (λ (z : Statement). Contains u z) (twice found.0 ∙ found.2) last

    fro : (t : Statement) → Contains u t → Contains (map (rename (λ b. image k.pairs (image e.pairs b))) q) t
    fro t m =
        let second = Contains-from_map (rename (image k.pairs)) r t ((k.elements t).1 m) in
        let first = Contains-from_map (rename (image e.pairs)) q second.0 ((e.elements second.0).1 second.1) in
        subst (λ (z : Statement). Contains (map (rename (λ b. image k.pairs (image e.pairs b))) q) z) (sym (twice first.0) ∙ ap (rename (image k.pairs)) first.2 ∙ second.2)
        (Contains-map (rename (λ b. image k.pairs (image e.pairs b))) q first.0 first.1)

-- ---- the laws, in the words of specs/

-- a map that is one to one makes the same dataset
pub Same-from_one_to_one : (f : Blank → Blank) (q r : List Statement) → IsOneToOne f q → SameElements (map (rename f) q) r → Same q r
Same-from_one_to_one f q r o e =
    Same-from_map f q r (λ a b s t k. o a b (to_blanks_in q s.statement a s.within s.blank_node) (to_blanks_in q t.statement b t.within t.blank_node) k) e

-- and each sameness comes from one
pub one_to_one-from_Same : (q r : List Statement) (e : Same q r) → IsOneToOne (image e.pairs) q
one_to_one-from_Same q r e a b m n k = Same-one_to_one q r e a b (from_blanks_in q a m) (from_blanks_in q b n) k

-- ---- what a renaming keeps

IsTerm-rename : (h : Blank → Blank) (t : Term) → IsTerm t → IsTerm (rename_term h t)
IsTerm-rename h (iri x) i = i
IsTerm-rename h (literal s x k) i = i
IsTerm-rename h (blank b) i = tt

IsResource-rename : (h : Blank → Blank) (t : Term) → IsResource t → IsResource (rename_term h t)
IsResource-rename h (iri x) i = i
IsResource-rename h (literal s x k) i = i
IsResource-rename h (blank b) i = tt

graph-rename : (h : Blank → Blank) (g : Option Term) → IfSome g IsResource → IfSome (option_map (rename_term h) g) IsResource
graph-rename h None i = i
graph-rename h (Some t) i = IsResource-rename h t i

-- a renamed statement is well formed
pub IsStatement-rename : (h : Blank → Blank) (s : Statement) → IsStatement s → IsStatement (rename h s)
IsStatement-rename h s i = record {
  subject = IsResource-rename h s.subject i.subject;
  predicate = i.predicate;
  object = IsTerm-rename h s.object i.object;
  graph = graph-rename h s.graph i.graph;
}

-- a renamed dataset has no repeats
pub IsDataset-rename : (h : Blank → Blank) (q : List Statement) → IsOneToOne h q → IsDataset q → IsDataset (map (rename h) q)
IsDataset-rename h q o d =
    AllDiffer-map (rename h) q
    (λ s t m n e. statement_from_renamed h s t (λ a b x y k. o a b (to_blanks_in q s a m x) (to_blanks_in q t b n y) k) e) d

-- the same datasets are well formed together
pub IsStatement-from_Same : (q r : List Statement) → Same q r → All IsStatement q → All IsStatement r
IsStatement-from_Same q r e i =
    All-from_contains IsStatement r
    (λ t m. let found = Contains-from_map (rename (image e.pairs)) q t ((e.elements t).1 m) in
    subst IsStatement found.2 (IsStatement-rename (image e.pairs) found.0 (All-contains IsStatement q found.0 i found.1)))
