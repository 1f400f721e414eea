-- Sets of statements, put together one by one, and asked for a statement.
use Rattle.std.proofs.Common.{◌≡◌, ℕ, ◌+◌, ◌<◌, Bool, true, false, cond, List, [], ◌∷◌, ◌++◌, length, take, get_or, Contains, Option, Some, None, BTreeSet, inl, inr, refl, sym, ap, ◌∙◌, subst}
use Rattle.std.specs.Prelude.{◌⊎◌, ◌↔◌}
use Rattle.std.specs.List.{list_any}
use Rattle.std.specs.Cmp.{IsTotalOrder}
use Rattle.std.specs.Option.{option_cmp}
use Rattle.std.specs.Ordering.{is_eq, nat_cmp}
use Rattle.std.specs.BTreeMap.{is_at}
use Rattle.std.specs.declared.cmp.Ordering.TheVariants.{Equal}
use Rattle.std.proofs.lemmas.Bool.{cases_Bool, false≢true}
use Rattle.std.proofs.lemmas.Cmp.{tied_itself}
use Rattle.std.proofs.lemmas.List.{take_more}
use Rattle.std.proofs.lemmas.List.Elements.{Contains-append_left, Contains-push, Contains-push_cases}
use Rattle.std.proofs.lemmas.Map.Lookups.{exact_unsigned}
use Rattle.std.proofs.lemmas.Map.Views.{btree_set_contains_iff, tells_apart}
use Rattle.base_types.specs.Sets.{SameElements}
use Rattle.base_types.proofs.Searching.{both_equal}
use Rattle.term_store.specs.declared.statements.Quad.{Quad}
use Rattle.term_store.specs.declared.store.TermId.{TermId}
use Rattle.term_store.specs.contracts.statements.QuadOrd.TheImpl.Laws.{total-law}
use Rattle.term_store.proofs.QuadLemmas.{quad_cmp}

-- ---- the order of statements tells all of them apart

quad_total : IsTotalOrder quad_cmp
quad_total = total-law

id_exact : (a b : TermId) → nat_cmp a.index b.index ≡ Equal → a ≡ b
id_exact a b e = let same = exact_unsigned a.index b.index e in λ i. record { index = same i }

graph_exact : (g h : Option TermId) → option_cmp (λ (a b : TermId). nat_cmp a.index b.index) g h ≡ Equal → g ≡ h
graph_exact None None e = refl
graph_exact None (Some h) e = absurd (cc)
graph_exact (Some g) None e = absurd (cc)
graph_exact (Some g) (Some h) e = ap Some (id_exact g h e)

quad_exact : (x y : Quad) → quad_cmp x y ≡ Equal → x ≡ y
quad_exact x y e =
    let a = both_equal (nat_cmp x.subject.index y.subject.index) _ e in
    let b = both_equal (nat_cmp x.predicate.index y.predicate.index) _ a.1 in
    let d = both_equal (nat_cmp x.object.index y.object.index) _ b.1 in
    let s = id_exact x.subject y.subject a.0 in
    let p = id_exact x.predicate y.predicate b.0 in
    let o = id_exact x.object y.object d.0 in
    let g = graph_exact x.graph y.graph d.1 in
    λ i. record { subject = s i; predicate = p i; object = o i; graph = g i }

-- ---- sets

-- the test of a list of keys for a statement
abbrev tests : List Quad → Quad → Bool
tests keys q = list_any (is_at (quad_cmp q)) keys

-- the test is membership
tests_are : (keys : List Quad) (q : Quad) → (tests keys q ≡ true) ↔ Contains keys q
tests_are keys q =
    let set : BTreeSet Quad = record { keys = keys } in
    btree_set_contains_iff quad_total quad_exact set q

-- a statement stands in a list or does not
pub in_or_not : (quads : List Quad) (q : Quad) → Contains quads q ⊎ (Contains quads q → ⊥)
in_or_not quads q = elim (cases_Bool (tests quads q)) [
  | inl t ↦ inl ((tests_are quads q).0 t)
  | inr f ↦ inr (λ c. false≢true (sym f ∙ (tests_are quads q).1 c))
]

-- a set's own test, where the keys are what contracts see
pub has_is : (b : Bool) (keys value : List Quad) (q : Quad) → b ≡ tests keys q → keys ≡ value → (b ≡ true) ↔ Contains value q
has_is b keys value q test view = (
  λ t. subst (λ (ks : List Quad). Contains ks q) view ((tests_are keys q).0 (sym test ∙ t)),
  λ c. test ∙ (tests_are keys q).1 (subst (λ (ks : List Quad). Contains ks q) (sym view) c),
)

cond_true : (b : Bool) → cond b true true ≡ true
cond_true true = refl
cond_true false = refl

-- what a set has once a statement is added
pub added : (keys value new : List Quad) (q : Quad) → keys ≡ value → ((x : Quad) → tests new x ≡ cond (is_at (quad_cmp q) x) true (tests keys x)) → (x : Quad) → Contains new x ↔ ((q ≡ x) ⊎ Contains value x)
added keys value new q view updates x = (
  λ c. elim (cases_Bool (is_at (quad_cmp q) x)) [
    | inl same ↦ inl (tells_apart quad_exact q x same)
    | inr other ↦
        let before : tests keys x ≡ true = sym (updates x ∙ ap (λ (b : Bool). cond b true (tests keys x)) other) ∙ (tests_are new x).1 c in
        inr (subst (λ (ks : List Quad). Contains ks x) view ((tests_are keys x).0 before))
  ],
  λ e. elim e [
    | inl same ↦
        let itself : is_at (quad_cmp q) q ≡ true = ap is_eq (tied_itself quad_total q) in
        let at : is_at (quad_cmp q) x ≡ true = subst (λ (y : Quad). is_at (quad_cmp q) y ≡ true) same itself in
        (tests_are new x).0 (updates x ∙ ap (λ (b : Bool). cond b true (tests keys x)) at)
    | inr old ↦
        let before : tests keys x ≡ true = (tests_are keys x).1 (subst (λ (ks : List Quad). Contains ks x) (sym view) old) in
        (tests_are new x).0 (updates x ∙ ap (λ (b : Bool). cond (is_at (quad_cmp q) x) true b) before ∙ cond_true (is_at (quad_cmp q) x))
  ],
)

-- a set that has the first statements of a list, once the next is added
pub one_more_added : (set new quads : List Quad) (i : ℕ) (d : Quad) → i < length quads → SameElements set (take i quads) → ((x : Quad) → Contains new x ↔ ((get_or quads i d ≡ x) ⊎ Contains set x)) → SameElements new (take (i + 1) quads)
one_more_added set new quads i d within same adds x =
    let next : Quad = get_or quads i d in (
      λ c. subst (λ (ys : List Quad). Contains ys x) (sym (take_more quads i d within)) (elim ((adds x).0 c) [
        | inl e ↦ subst (Contains (take i quads ++ next ∷ [])) e (Contains-push (take i quads) next)
        | inr old ↦ Contains-append_left (take i quads) (next ∷ []) x ((same x).0 old)
      ]),
      λ c. (adds x).1 (elim (Contains-push_cases (take i quads) next x (subst (λ (ys : List Quad). Contains ys x) (take_more quads i d within) c)) [
        | inl old ↦ inr ((same x).1 old)
        | inr e ↦ inl e
      ]),
    )
