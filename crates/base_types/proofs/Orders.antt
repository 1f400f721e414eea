-- Code-point order of texts is the order of their bytes, and `in_order` is what a sort by it leaves.
use Rattle.std.proofs.Common.{◌≡◌, ℕ, zero, suc, ◌+◌, ◌<◌, List, [], ◌∷◌, get_or, refl, sym, ap, ◌∙◌, subst, inl, inr, arith, Ordering, Bool, true, false, cond, not, ◌||◌}
use Rattle.std.specs.Prelude.{◌⊎◌, Contains, All}
use Rattle.std.specs.Str.{bytes_eq}
use Rattle.std.specs.List.{AllByRecursion, sum_by}
use Rattle.std.specs.List.Sorted.{IsPermutation, IsSorted}
use Rattle.std.specs.Cmp.Lexicographic.{slice_cmp, nat_list_cmp_total, texts_ties}
use Rattle.std.specs.Ordering.{nat_cmp, is_le, is_lt, is_eq, is_gt, ordering_reverse}
use Rattle.std.specs.declared.cmp.Ordering.TheVariants.{Less, Equal, Greater}
use Rattle.std.proofs.lemmas.Bool.Decides.{nat_tests}
use Rattle.std.proofs.lemmas.Cmp.{same_from_slice_cmp, tied_itself, upto}
use Rattle.std.proofs.lemmas.Map.Lookups.{exact_bytes}
use Rattle.std.proofs.lemmas.List.Elements.{recursion_from_All}
use Rattle.std.proofs.lemmas.List.Sums.{sum_by-cons}
use Rattle.std.proofs.lemmas.List.Sorted.{IsPermutation-refl, IsPermutation-sym, IsPermutation-trans, IsPermutation-cons, IsPermutation-middle, sum_by-IsPermutation, sorted_far, ranks_by}
use Rattle.base_types.specs.Order.{is_upto, is_before, put, in_order}
use Rattle.std.proofs.lemmas.Bool.{false_from_ne_true, true≢false}
use Rattle.std.proofs.lemmas.Slice.Eq.{bytes_eq-Decides}
use Rattle.base_types.proofs.Searching.{is_less}
use Rattle.base_types.proofs.Lists.{get_or-next, Contains-here, Contains-there, AllByRecursion-contains}

abbrev pub text_cmp : List ℕ → List ℕ → Ordering
text_cmp = slice_cmp nat_cmp

-- ---- `is_upto` is the order of std

-- `is_upto` by std's comparison of texts
pub is_upto-cmp : (xs ys : List ℕ) → is_upto xs ys ≡ is_le (text_cmp xs ys)
is_upto-cmp xs ys = sym (same_from_slice_cmp nat_cmp is_le is_upto refl (λ _ _. refl) (λ _ _. refl) (λ x y xs ys o h. grind (arith, nat_tests)) xs ys (text_cmp xs ys) refl)

-- equality of texts by their comparison
pub bytes_eq-cmp : (xs ys : List ℕ) → bytes_eq xs ys ≡ is_eq (text_cmp xs ys)
bytes_eq-cmp = texts_ties

-- a case of the comparison of two texts, with its equation
pub by_cmp : (G : Type 0) (xs ys : List ℕ) → (text_cmp xs ys ≡ Less → G) → (text_cmp xs ys ≡ Equal → G) → (text_cmp xs ys ≡ Greater → G) → G
by_cmp G xs ys less equal greater = go (text_cmp xs ys) refl
  where
    go : (o : Ordering) → text_cmp xs ys ≡ o → G
    go Less e = less e
    go Equal e = equal e
    go Greater e = greater e

-- a text is upto itself
pub is_upto-refl : (xs : List ℕ) → is_upto xs xs ≡ true
is_upto-refl xs = is_upto-cmp xs xs ∙ ap is_le (tied_itself nat_list_cmp_total xs)

-- a text that is not upto another comes after it
pub is_upto-back : (xs ys : List ℕ) → is_upto xs ys ≡ false → is_upto ys xs ≡ true
is_upto-back xs ys f =
    let turned = nat_list_cmp_total.antisymm ys xs in let above = is_upto-cmp xs ys in let below = is_upto-cmp ys xs in
    by_cmp (is_upto ys xs ≡ true) xs ys (λ e. let a = ap is_le e in cc) (λ e. let a = ap is_le e in cc) (λ e. let a = ap ordering_reverse e in let b = ap is_le (turned ∙ a) in cc)

-- of two texts one is upto the other
pub is_upto-total : (xs ys : List ℕ) → (is_upto xs ys ≡ true) ⊎ (is_upto ys xs ≡ true)
is_upto-total xs ys = go (is_upto xs ys) refl
  where
    go : (b : Bool) → is_upto xs ys ≡ b → (is_upto xs ys ≡ true) ⊎ (is_upto ys xs ≡ true)
    go true e = inl e
    go false e = inr (is_upto-back xs ys e)

-- texts that are upto each other are the same
pub is_upto-antisymmetric : (xs ys : List ℕ) → is_upto xs ys ≡ true → is_upto ys xs ≡ true → xs ≡ ys
is_upto-antisymmetric xs ys first second =
    let turned = nat_list_cmp_total.antisymm ys xs in let above = is_upto-cmp xs ys in let below = is_upto-cmp ys xs in
    by_cmp (xs ≡ ys) xs ys (λ e. let a = ap ordering_reverse e in let b = ap is_le (turned ∙ a) in absurd (cc)) (λ e. exact_bytes xs ys e) (λ e. let a = ap is_le e in absurd (cc))

not_after : (o : Ordering) → is_le o ≡ true → is_gt o ≡ false
not_after Less e = refl
not_after Equal e = refl
not_after Greater e = sym e

upto_again : (o : Ordering) → is_gt o ≡ false → is_le o ≡ true
upto_again Less e = refl
upto_again Equal e = refl
upto_again Greater e = sym e

-- upto a text that is upto a third
pub is_upto-transitive : (xs ys zs : List ℕ) → is_upto xs ys ≡ true → is_upto ys zs ≡ true → is_upto xs zs ≡ true
is_upto-transitive xs ys zs first second =
    is_upto-cmp xs zs ∙ upto_again _ (upto nat_list_cmp_total xs ys zs (not_after _ (sym (is_upto-cmp xs ys) ∙ first)) (not_after _ (sym (is_upto-cmp ys zs) ∙ second)))

-- ---- `is_before`, the strict order

-- of two texts one comes before the other exactly where that is not upto it
pub is_before-strict : (xs ys : List ℕ) → is_before xs ys ≡ not (is_upto ys xs)
is_before-strict xs ys =
    let turned = nat_list_cmp_total.antisymm xs ys in let above = is_upto-cmp ys xs in
    by_cmp (is_before xs ys ≡ not (is_upto ys xs)) xs ys
    (λ e. let a = ap is_le (nat_list_cmp_total.antisymm ys xs ∙ ap ordering_reverse e) in ap is_lt e ∙ ap not (sym (above ∙ a)))
    (λ e. let a = ap is_le (nat_list_cmp_total.antisymm ys xs ∙ ap ordering_reverse e) in ap is_lt e ∙ ap not (sym (above ∙ a)))
    (λ e. let a = ap is_le (nat_list_cmp_total.antisymm ys xs ∙ ap ordering_reverse e) in ap is_lt e ∙ ap not (sym (above ∙ a)))

-- a text is upto another where it comes before it or is the same
pub is_upto-before : (xs ys : List ℕ) → is_upto xs ys ≡ (is_before xs ys || bytes_eq xs ys)
is_upto-before xs ys = is_upto-cmp xs ys ∙ parts (text_cmp xs ys) ∙ ap (λ b. is_before xs ys || b) (sym (bytes_eq-cmp xs ys))
  where
    parts : (o : Ordering) → is_le o ≡ (is_lt o || is_eq o)
    parts Less = refl
    parts Equal = refl
    parts Greater = refl

-- an earlier text comes before each later one
pub is_before-transitive : (xs ys zs : List ℕ) → is_before xs ys ≡ true → is_before ys zs ≡ true → is_before xs zs ≡ true
is_before-transitive xs ys zs p q = ap is_lt (nat_list_cmp_total.trans xs ys zs (is_less _ p) (is_less _ q))

-- a text does not come before an equal one
pub is_before-differs : (xs ys : List ℕ) → is_before xs ys ≡ true → bytes_eq xs ys ≡ false
is_before-differs xs ys p = bytes_eq-cmp xs ys ∙ ap is_eq (is_less _ p)

turned : (o : Ordering) → is_lt o ≡ false → is_eq o ≡ false → is_lt (ordering_reverse o) ≡ true
turned Less h e = absurd (cc)
turned Equal h e = absurd (cc)
turned Greater h e = refl

-- of two texts that are not the same one comes before the other
pub is_before-other_way : (xs ys : List ℕ) → is_before xs ys ≡ false → bytes_eq xs ys ≡ false → is_before ys xs ≡ true
is_before-other_way xs ys h e = ap is_lt (nat_list_cmp_total.antisymm ys xs) ∙ turned (text_cmp xs ys) h (sym (bytes_eq-cmp xs ys) ∙ e)

-- one comes before the other, or they are the same
pub is_before-cases : (xs ys : List ℕ) → (is_before xs ys ≡ true) ⊎ ((xs ≡ ys) ⊎ (is_before ys xs ≡ true))
is_before-cases xs ys =
    by_cmp ((is_before xs ys ≡ true) ⊎ ((xs ≡ ys) ⊎ (is_before ys xs ≡ true))) xs ys
    (λ e. inl (ap is_lt e))
    (λ e. inr (inl (exact_bytes xs ys e)))
    (λ e. inr (inr (ap is_lt (nat_list_cmp_total.antisymm ys xs ∙ ap ordering_reverse e))))

-- before one that is upto another is before that
pub less_upto : (xs ys zs : List ℕ) → text_cmp xs ys ≡ Less → is_upto ys zs ≡ true → text_cmp xs zs ≡ Less
less_upto xs ys zs less up =
    by_cmp (text_cmp xs zs ≡ Less) ys zs
    (λ e. nat_list_cmp_total.trans xs ys zs less e)
    (λ e. subst (λ us. text_cmp xs us ≡ Less) (exact_bytes ys zs e) less)
    (λ e. let f : is_upto ys zs ≡ false = is_upto-cmp ys zs ∙ ap is_le e in absurd (cc))

-- upto another and not the same is before it
pub less_if : (xs ys : List ℕ) → is_upto xs ys ≡ true → bytes_eq ys xs ≡ false → text_cmp xs ys ≡ Less
less_if xs ys up other =
    let above = is_upto-cmp xs ys in let same = bytes_eq-cmp ys xs in
    by_cmp (text_cmp xs ys ≡ Less) xs ys
    (λ e. e)
    (λ e. let a = ap is_eq (nat_list_cmp_total.antisymm ys xs ∙ ap ordering_reverse e) in absurd (cc))
    (λ e. let a = ap is_le e in absurd (cc))

-- ---- equality of texts by its test; the test itself is std's `bytes_eq-Decides`

-- texts that pass the test are the same
pub bytes_eq-true : (xs ys : List ℕ) → bytes_eq xs ys ≡ true → xs ≡ ys
bytes_eq-true xs ys h = (bytes_eq-Decides xs ys).0 h

-- texts that are the same pass the test
pub bytes_eq-same : (xs ys : List ℕ) → xs ≡ ys → bytes_eq xs ys ≡ true
bytes_eq-same xs ys e = (bytes_eq-Decides xs ys).1 e

-- texts that differ do not
pub bytes_eq-false : (xs ys : List ℕ) → (xs ≡ ys → ⊥) → bytes_eq xs ys ≡ false
bytes_eq-false xs ys apart = false_from_ne_true (bytes_eq xs ys) (λ h. apart (bytes_eq-true xs ys h))

-- texts that do not pass it differ
pub bytes_eq-differ : (xs ys : List ℕ) → bytes_eq xs ys ≡ false → xs ≡ ys → ⊥
bytes_eq-differ xs ys h e = true≢false (sym (bytes_eq-same xs ys e) ∙ h)

-- ---- lists in order

-- each text is upto those after it
unfoldable pub InOrder : List (List ℕ) → Type 0
InOrder [] = Unit {0}
InOrder (t ∷ ts) = AllByRecursion (λ u. is_upto t u ≡ true) ts × InOrder ts

put-all : (P : List ℕ → Type 0) (t : List ℕ) (us : List (List ℕ)) → P t → AllByRecursion P us → AllByRecursion P (put t us)
put-all P t [] p all = (p, tt)
put-all P t (u ∷ us) p all = elim (is_upto t u) as (λ b. AllByRecursion P (cond b (t ∷ (u ∷ us)) (u ∷ put t us))) [ true ↦ (p, all) | false ↦ (all.0, put-all P t us p all.1) ]

all_upto : (t u : List ℕ) (us : List (List ℕ)) → is_upto t u ≡ true → AllByRecursion (λ v. is_upto u v ≡ true) us → AllByRecursion (λ v. is_upto t v ≡ true) us
all_upto t u [] e all = tt
all_upto t u (v ∷ vs) e all = (is_upto-transitive t u v e all.0, all_upto t u vs e all.1)

InOrder-put : (t : List ℕ) (us : List (List ℕ)) → InOrder us → InOrder (put t us)
unfolding InOrder
InOrder-put t [] up = (tt, tt)
InOrder-put t (u ∷ us) up = go (is_upto t u) refl (InOrder-put t us up.1)
  where
    go : (b : Bool) → is_upto t u ≡ b → InOrder (put t us) → InOrder (cond b (t ∷ (u ∷ us)) (u ∷ put t us))
    go true e rest = ((e, all_upto t u us e up.0), up)
    go false e rest = (put-all (λ v. is_upto u v ≡ true) t us (is_upto-back t u e) up.0, rest)

-- `in_order` leaves them in order
pub InOrder-in_order : (ts : List (List ℕ)) → InOrder (in_order ts)
unfolding InOrder
InOrder-in_order [] = tt
InOrder-in_order (t ∷ ts) = InOrder-put t (in_order ts) (InOrder-in_order ts)

not_below : (t u : List ℕ) → is_upto t u ≡ true → is_lt (text_cmp u t) ≡ false
not_below t u e =
    let turned = nat_list_cmp_total.antisymm t u in let above = is_upto-cmp t u in
    by_cmp (is_lt (text_cmp u t) ≡ false) u t (λ f. let a = ap ordering_reverse f in let b = ap is_le (turned ∙ a) in absurd (cc)) (λ f. ap is_lt f) (λ f. ap is_lt f)

-- a text that a later one does not come before
pub upto_if : (t u : List ℕ) → is_lt (text_cmp u t) ≡ false → is_upto t u ≡ true
upto_if t u e =
    let turned = nat_list_cmp_total.antisymm t u in let above = is_upto-cmp t u in
    by_cmp (is_upto t u ≡ true) u t (λ f. let a = ap is_lt f in absurd (cc)) (λ f. let a = ap ordering_reverse f in let b = ap is_le (turned ∙ a) in cc) (λ f. let a = ap ordering_reverse f in let b = ap is_le (turned ∙ a) in cc)

-- texts in order are sorted
pub IsSorted-InOrder : (ts : List (List ℕ)) → InOrder ts → IsSorted text_cmp ts
unfolding InOrder
IsSorted-InOrder [] up k d low high = absurd (omega arith)
IsSorted-InOrder (t ∷ []) up k d low high = absurd (omega arith)
IsSorted-InOrder (t ∷ (u ∷ us)) up zero d low high = not_below t u up.0.0
IsSorted-InOrder (t ∷ (u ∷ us)) up (suc k) d low high = rw (get_or-next t (u ∷ us) k d) (IsSorted-InOrder (u ∷ us) up.1 k d (omega arith) (omega arith))

each_upto : (t : List ℕ) (us : List (List ℕ)) → AllByRecursion (λ u. is_lt (text_cmp u t) ≡ false) us → AllByRecursion (λ u. is_upto t u ≡ true) us
each_upto t [] all = tt
each_upto t (u ∷ us) all = (upto_if t u all.0, each_upto t us all.1)

-- and back
pub InOrder-IsSorted : (ts : List (List ℕ)) → IsSorted text_cmp ts → InOrder ts
unfolding InOrder
InOrder-IsSorted [] up = tt
InOrder-IsSorted (t ∷ ts) up =
    let far : All (λ u. is_lt (text_cmp u t) ≡ false) ts = λ k d in'. sorted_far (λ x y. is_lt (text_cmp x y)) (ranks_by nat_list_cmp_total (λ x. x)) (t ∷ ts) up 0 (suc k) d (omega arith) (omega arith) in
    (each_upto t ts (recursion_from_All (λ u. is_lt (text_cmp u t) ≡ false) ts far), InOrder-IsSorted ts (λ k d low high. subst (λ v. is_lt (text_cmp v (get_or ts k d)) ≡ false) (get_or-next t ts k d) (up (suc k) d (omega arith) (omega arith))))

-- ---- how often a text stands in a list

-- 1 for this text, and 0 for any other
abbrev pub once : List ℕ → List ℕ → ℕ
once t u = cond (bytes_eq u t) 1 0

-- how often it stands in the list
abbrev pub count : List ℕ → List (List ℕ) → ℕ
count t us = sum_by (once t) us

-- a text is once itself
pub once-same : (t : List ℕ) → once t t ≡ 1
once-same t = let a : bytes_eq t t ≡ true = bytes_eq-cmp t t ∙ ap is_eq (tied_itself nat_list_cmp_total t) in rw a refl

-- a text that is counted stands in the list
pub count-Contains : (t : List ℕ) (us : List (List ℕ)) → 0 < count t us → Contains us t
count-Contains t [] some = absurd (omega arith)
count-Contains t (u ∷ us) some = go (bytes_eq u t) refl (λ more. count-Contains t us more)
  where
    go : (b : Bool) → bytes_eq u t ≡ b → (0 < count t us → Contains us t) → Contains (u ∷ us) t
    go true e rest = subst (Contains (u ∷ us)) (exact_bytes u t (by_cmp (text_cmp u t ≡ Equal) u t (λ f. let a = ap is_eq f in let b = bytes_eq-cmp u t in absurd (cc)) (λ f. f) (λ f. let a = ap is_eq f in let b = bytes_eq-cmp u t in absurd (cc)))) (Contains-here u us)
    go false e rest =
        let none : once t u ≡ 0 = rw e refl in
        let whole : count t (u ∷ us) ≡ once t u + count t us = sum_by-cons (once t) u us in
        Contains-there u us t (rest (omega arith))

count-head : (t : List ℕ) (ts : List (List ℕ)) → 0 < count t (t ∷ ts)
count-head t ts = let a = once-same t in let b : count t (t ∷ ts) ≡ once t t + count t ts = sum_by-cons (once t) t ts in omega arith

first_upto : (t u : List ℕ) (us : List (List ℕ)) → AllByRecursion (λ v. is_upto u v ≡ true) us → Contains (u ∷ us) t → is_upto u t ≡ true
first_upto t u us up in' = AllByRecursion-contains (λ v. is_upto u v ≡ true) (u ∷ us) t (is_upto-refl u, up) in'

InOrder-unique : (ts us : List (List ℕ)) → InOrder ts → InOrder us → ((t : List ℕ) → count t ts ≡ count t us) → ts ≡ us
unfolding InOrder
InOrder-unique [] [] up down same = refl
InOrder-unique [] (u ∷ us) up down same = let a = count-head u us in let b = same u in absurd (omega arith)
InOrder-unique (t ∷ ts) [] up down same = let a = count-head t ts in let b = same t in absurd (omega arith)
InOrder-unique (t ∷ ts) (u ∷ us) up down same =
    let first : is_upto u t ≡ true = first_upto t u us down.0 (count-Contains t (u ∷ us) (let a = count-head t ts in let b = same t in omega arith)) in
    let second : is_upto t u ≡ true = first_upto u t ts up.0 (count-Contains u (t ∷ ts) (let a = count-head u us in let b = same u in omega arith)) in
    let e : t ≡ u = is_upto-antisymmetric t u second first in
    let rest : (v : List ℕ) → count v ts ≡ count v us = λ v.
    let a : count v (t ∷ ts) ≡ once v t + count v ts = sum_by-cons (once v) t ts in
    let b : count v (u ∷ us) ≡ once v u + count v us = sum_by-cons (once v) u us in
    let f : once v t ≡ once v u = ap (once v) e in
    let s = same v in
    omega arith in
    let tails : ts ≡ us = InOrder-unique ts us up.1 down.1 rest in
    cc

-- ---- `in_order`

put-permutation : (t : List ℕ) (us : List (List ℕ)) → IsPermutation (t ∷ us) (put t us)
put-permutation t [] = IsPermutation-refl (t ∷ [])
put-permutation t (u ∷ us) =
    let moved : IsPermutation (t ∷ (u ∷ us)) (u ∷ (t ∷ us)) = IsPermutation-sym _ _ (IsPermutation-middle (u ∷ []) t us) in
    let later : IsPermutation (t ∷ (u ∷ us)) (u ∷ put t us) = IsPermutation-trans _ _ _ moved (IsPermutation-cons u _ _ (put-permutation t us)) in
    elim (is_upto t u) as (λ b. IsPermutation (t ∷ (u ∷ us)) (cond b (t ∷ (u ∷ us)) (u ∷ put t us))) [ true ↦ IsPermutation-refl (t ∷ (u ∷ us)) | false ↦ later ]

-- the same texts, each as often
pub in_order-permutation : (ts : List (List ℕ)) → IsPermutation ts (in_order ts)
in_order-permutation [] = IsPermutation-refl []
in_order-permutation (t ∷ ts) = IsPermutation-trans (t ∷ ts) (t ∷ in_order ts) (put t (in_order ts)) (IsPermutation-cons t ts (in_order ts) (in_order-permutation ts)) (put-permutation t (in_order ts))

-- they are sorted
pub in_order-sorted : (ts : List (List ℕ)) → IsSorted text_cmp (in_order ts)
in_order-sorted ts = IsSorted-InOrder (in_order ts) (InOrder-in_order ts)

-- what a sort of ts leaves
pub in_order-only : (ts us : List (List ℕ)) → IsPermutation ts us → IsSorted text_cmp us → us ≡ in_order ts
in_order-only ts us moved up =
    InOrder-unique us (in_order ts) (InOrder-IsSorted us up) (InOrder-in_order ts)
    (λ t. sum_by-IsPermutation (once t) ts us moved ∙ sym (sum_by-IsPermutation (once t) ts (in_order ts) (in_order-permutation ts)))

-- the order of the list that it is taken of does not matter
pub in_order-free : (ts us : List (List ℕ)) → IsPermutation ts us → in_order us ≡ in_order ts
in_order-free ts us moved = in_order-only ts (in_order us) (IsPermutation-trans ts us (in_order us) moved (in_order-permutation us)) (in_order-sorted us)
