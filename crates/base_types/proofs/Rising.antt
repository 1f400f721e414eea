-- `sorted_set` is the one list in strict order with the elements of a list, and what a sort and `dedup` leave.
use Rattle.std.proofs.Common.{◌≡◌, ℕ, List, [], ◌∷◌, refl, sym, ap, ◌∙◌, subst, ⊎_elim, Ordering, Bool, true, false}
use Rattle.std.specs.Prelude.{Contains}
use Rattle.std.specs.Str.{bytes_eq}
use Rattle.std.specs.List.{AllByRecursion, dedup}
use Rattle.std.specs.List.Sorted.{IsPermutation, IsSorted, IsStrictlySortedBy}
use Rattle.std.specs.Cmp.{IsTotalOrder, IsEquivalence}
use Rattle.std.specs.Cmp.Lexicographic.{nat_list_cmp_total}
use Rattle.std.specs.Ordering.{is_le, is_eq, eq_by_cmp, ordering_reverse}
use Rattle.std.specs.declared.cmp.Ordering.TheVariants.{Less, Equal, Greater}
use Rattle.std.proofs.lemmas.Map.Lookups.{exact_bytes, CmpEqualImpliesEq}
use Rattle.std.proofs.lemmas.Cmp.{eq_by_cmp_equiv}
use Rattle.std.proofs.lemmas.List.Kept.{IsStrictlySortedBy-dedup, Contains-dedup, Contains-from_dedup}
use Rattle.std.proofs.lemmas.List.Sorted.{Contains-permutation, IsPermutation-sym}
use Rattle.base_types.specs.Order.{is_upto, put_once, sorted_set}
use Rattle.base_types.specs.Sets.{SameElements}
use Rattle.base_types.proofs.Lists.{Contains-here, Contains-there, Contains-cons_cases, SameElements-refl, SameElements-sym, SameElements-trans, SameElements-cons, strictly_sorted-unique}
use Rattle.base_types.proofs.Orders.{text_cmp, is_upto-cmp, bytes_eq-cmp, by_cmp}

-- ---- `put_once` by the comparison with the first text

put_once-Less : (t u : List ℕ) (us : List (List ℕ)) → text_cmp t u ≡ Less → put_once t (u ∷ us) ≡ t ∷ (u ∷ us)
put_once-Less t u us e =
    let a : bytes_eq t u ≡ false = bytes_eq-cmp t u ∙ ap is_eq e in
    let b : is_upto t u ≡ true = is_upto-cmp t u ∙ ap is_le e in
    rw (a, b) refl

put_once-Equal : (t u : List ℕ) (us : List (List ℕ)) → text_cmp t u ≡ Equal → put_once t (u ∷ us) ≡ u ∷ us
put_once-Equal t u us e = let a : bytes_eq t u ≡ true = bytes_eq-cmp t u ∙ ap is_eq e in rw a refl

put_once-Greater : (t u : List ℕ) (us : List (List ℕ)) → text_cmp t u ≡ Greater → put_once t (u ∷ us) ≡ u ∷ put_once t us
put_once-Greater t u us e =
    let a : bytes_eq t u ≡ false = bytes_eq-cmp t u ∙ ap is_eq e in
    let b : is_upto t u ≡ false = is_upto-cmp t u ∙ ap is_le e in
    rw (a, b) refl

put_once-all : (P : List ℕ → Type 0) (t : List ℕ) (us : List (List ℕ)) → P t → AllByRecursion P us → AllByRecursion P (put_once t us)
put_once-all P t [] p all = (p, tt)
put_once-all P t (u ∷ us) p all =
    let rest : AllByRecursion P (put_once t us) = put_once-all P t us p all.1 in
    by_cmp (AllByRecursion P (put_once t (u ∷ us))) t u
    (λ e. subst (AllByRecursion P) (sym (put_once-Less t u us e)) (p, all))
    (λ e. subst (AllByRecursion P) (sym (put_once-Equal t u us e)) all)
    (λ e. subst (AllByRecursion P) (sym (put_once-Greater t u us e)) (all.0, rest))

all_below : (t u : List ℕ) (us : List (List ℕ)) → text_cmp t u ≡ Less → AllByRecursion (λ v. text_cmp u v ≡ Less) us → AllByRecursion (λ v. text_cmp t v ≡ Less) us
all_below t u [] e all = tt
all_below t u (v ∷ vs) e all = (nat_list_cmp_total.trans t u v e all.0, all_below t u vs e all.1)

put_once-rises : (t : List ℕ) (us : List (List ℕ)) → IsStrictlySortedBy text_cmp us → IsStrictlySortedBy text_cmp (put_once t us)
unfolding IsStrictlySortedBy
put_once-rises t [] up = (tt, tt)
put_once-rises t (u ∷ us) up =
    let rest : IsStrictlySortedBy text_cmp (put_once t us) = put_once-rises t us up.1 in
    by_cmp (IsStrictlySortedBy text_cmp (put_once t (u ∷ us))) t u
    (λ e. subst (IsStrictlySortedBy text_cmp) (sym (put_once-Less t u us e)) ((e, all_below t u us e up.0), up))
    (λ e. subst (IsStrictlySortedBy text_cmp) (sym (put_once-Equal t u us e)) up)
    (λ e. subst (IsStrictlySortedBy text_cmp) (sym (put_once-Greater t u us e))
    (put_once-all (λ v. text_cmp u v ≡ Less) t us (nat_list_cmp_total.antisymm u t ∙ ap ordering_reverse e) up.0, rest))

put_once-same : (t : List ℕ) (us : List (List ℕ)) → SameElements (put_once t us) (t ∷ us)
put_once-same t [] = SameElements-refl (t ∷ [])
put_once-same t (u ∷ us) =
    let later : SameElements (u ∷ put_once t us) (u ∷ (t ∷ us)) = SameElements-cons u (put_once t us) (t ∷ us) (put_once-same t us) in
    let moved : SameElements (u ∷ (t ∷ us)) (t ∷ (u ∷ us)) = λ x. (exchanged u t us x, exchanged t u us x) in
    by_cmp (SameElements (put_once t (u ∷ us)) (t ∷ (u ∷ us))) t u
    (λ e. subst (λ vs. SameElements vs (t ∷ (u ∷ us))) (sym (put_once-Less t u us e)) (SameElements-refl (t ∷ (u ∷ us))))
    (λ e. subst (λ vs. SameElements vs (t ∷ (u ∷ us))) (sym (put_once-Equal t u us e)) (again (exact_bytes t u e)))
    (λ e. subst (λ vs. SameElements vs (t ∷ (u ∷ us))) (sym (put_once-Greater t u us e)) (SameElements-trans (u ∷ put_once t us) (u ∷ (t ∷ us)) (t ∷ (u ∷ us)) later moved))
  where
    exchanged : (a b : List ℕ) (cs : List (List ℕ)) (x : List ℕ) → Contains (a ∷ (b ∷ cs)) x → Contains (b ∷ (a ∷ cs)) x
    exchanged a b cs x c =
        ⊎_elim (λ e. Contains-there b (a ∷ cs) x (subst (Contains (a ∷ cs)) e (Contains-here a cs)))
        (λ d. ⊎_elim (λ e. subst (Contains (b ∷ (a ∷ cs))) e (Contains-here b (a ∷ cs))) (λ f. Contains-there b (a ∷ cs) x (Contains-there a cs x f)) (Contains-cons_cases b cs x d))
        (Contains-cons_cases a (b ∷ cs) x c)

    again : t ≡ u → SameElements (u ∷ us) (t ∷ (u ∷ us))
    again e x = (λ c. Contains-there t (u ∷ us) x c, λ c. ⊎_elim (λ f. subst (Contains (u ∷ us)) (sym e ∙ f) (Contains-here u us)) (λ d. d) (Contains-cons_cases t (u ∷ us) x c))

-- ---- `sorted_set`

-- the texts are in strict order
pub rising-rises : (ts : List (List ℕ)) → IsStrictlySortedBy text_cmp (sorted_set ts)
unfolding IsStrictlySortedBy
rising-rises [] = tt
rising-rises (t ∷ ts) = put_once-rises t (sorted_set ts) (rising-rises ts)

-- they are the texts of the list
pub rising-same : (ts : List (List ℕ)) → SameElements (sorted_set ts) ts
rising-same [] = SameElements-refl []
rising-same (t ∷ ts) = SameElements-trans (put_once t (sorted_set ts)) (t ∷ sorted_set ts) (t ∷ ts) (put_once-same t (sorted_set ts)) (SameElements-cons t (sorted_set ts) ts (rising-same ts))

-- and no other list in strict order has them
pub rising-only : (ts us : List (List ℕ)) → IsStrictlySortedBy text_cmp us → SameElements us ts → us ≡ sorted_set ts
rising-only ts us up same = strictly_sorted-unique nat_list_cmp_total us (sorted_set ts) up (rising-rises ts) (SameElements-trans us ts (sorted_set ts) same (SameElements-sym (sorted_set ts) ts (rising-same ts)))

-- it depends on the set alone
pub rising-free : (ts us : List (List ℕ)) → SameElements ts us → sorted_set ts ≡ sorted_set us
rising-free ts us same = rising-only us (sorted_set ts) (rising-rises ts) (SameElements-trans (sorted_set ts) ts us (rising-same ts) same)

-- ---- a sort, and then `dedup`

-- the elements that `dedup` of a permutation of xs keeps
pub SameElements-dedup : {X : Type 0} {R : X → X → Ordering} (o : IsTotalOrder R) (exact : CmpEqualImpliesEq R) {E : X → X → Bool} (ties : (x y : X) → E x y ≡ eq_by_cmp R x y) (xs ys : List X) → IsPermutation xs ys → SameElements (dedup E ys) xs
SameElements-dedup {X} {R} o exact {E} ties xs ys moved x = (
  λ c. Contains-permutation ys xs x (IsPermutation-sym xs ys moved) (Contains-from_dedup E ys x c),
  λ c. Contains-dedup (subst IsEquivalence (λ i a b. sym (ties a b) i) (eq_by_cmp_equiv o)) (λ a b e. exact a b (equal_if (R a b) (sym (ties a b) ∙ e))) ys x (Contains-permutation xs ys x moved c),
)
  where
    equal_if : (r : Ordering) → is_eq r ≡ true → r ≡ Equal
    equal_if Less e = absurd (cc)
    equal_if Equal e = refl
    equal_if Greater e = absurd (cc)

-- a sort and then `dedup` leave it
pub rising-dedup : (ts us : List (List ℕ)) → IsPermutation ts us → IsSorted text_cmp us → dedup bytes_eq us ≡ sorted_set ts
rising-dedup ts us moved up =
    rising-only ts (dedup bytes_eq us) (IsStrictlySortedBy-dedup nat_list_cmp_total bytes_eq-cmp us up) (SameElements-dedup nat_list_cmp_total exact_bytes bytes_eq-cmp ts us moved)
