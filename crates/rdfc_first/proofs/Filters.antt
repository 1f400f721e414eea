-- What a filter keeps of a list and of the list in another order.
use Rattle.std.proofs.Common.{◌≡◌, ℕ, ◌+◌, Bool, true, false, cond, List, [], ◌∷◌, filter, refl, sym, ap, ◌∙◌, subst, inl, inr, arith, Contains}
use Rattle.std.proofs.lemmas.Bool.{false≢true}
use Rattle.std.specs.List.{AllByRecursion, sum_by}
use Rattle.std.specs.List.Sorted.{IsPermutation}
use Rattle.std.proofs.lemmas.List.Sums.{sum_by-cons}
use Rattle.std.proofs.lemmas.List.Sorted.{IsPermutation-refl, IsPermutation-sym, IsPermutation-trans, IsPermutation-cons, IsPermutation-remove, sum_by-IsPermutation}
use Rattle.std.specs.List.{remove}
use Rattle.base_types.proofs.Orders.{once, once-same, count-Contains}
use Rattle.base_types.proofs.Lists.{Contains-here, Contains-there, Contains-cons_cases, Contains-nil}

-- ---- what a filter keeps

-- a filter keeps all of a list of which each element passes
pub filter-all : {X : Type 0} (p : X → Bool) (xs : List X) → AllByRecursion (λ x. p x ≡ true) xs → filter p xs ≡ xs
filter-all p [] all = refl
filter-all p (x ∷ xs) all = rw all.0 (ap (λ ys. x ∷ ys) (filter-all p xs all.1))

-- and none where none passes
pub filter-none : {X : Type 0} (p : X → Bool) (xs : List X) → AllByRecursion (λ x. p x ≡ false) xs → filter p xs ≡ []
filter-none p [] all = refl
filter-none p (x ∷ xs) all = rw all.0 (filter-none p xs all.1)

kept_cases : {X : Type 0} (b : Bool) (x y : X) (xs ys : List X) → (Contains xs y → Contains ys y) → Contains (cond b (x ∷ xs) xs) y → Contains (x ∷ ys) y
kept_cases true x y xs ys h c = elim (Contains-cons_cases x xs y c) [ inl e ↦ subst (Contains (x ∷ ys)) e (Contains-here x ys) | inr d ↦ Contains-there x ys y (h d) ]
kept_cases false x y xs ys h c = Contains-there x ys y (h c)

-- what a filter keeps stands in the list
pub Contains-from_filter : {X : Type 0} (p : X → Bool) (xs : List X) (y : X) → Contains (filter p xs) y → Contains xs y
Contains-from_filter p [] y c = c
Contains-from_filter p (x ∷ xs) y c = kept_cases (p x) x y (filter p xs) xs (Contains-from_filter p xs y) c

passes_cases : {X : Type 0} (p : X → Bool) (b : Bool) (x y : X) (xs : List X) → p x ≡ b → (Contains xs y → p y ≡ true) → Contains (cond b (x ∷ xs) xs) y → p y ≡ true
passes_cases p true x y xs e h c = elim (Contains-cons_cases x xs y c) [ inl f ↦ subst (λ z. p z ≡ true) f e | inr d ↦ h d ]
passes_cases p false x y xs e h c = h c

-- and passes
pub filter-passes : {X : Type 0} (p : X → Bool) (xs : List X) (y : X) → Contains (filter p xs) y → p y ≡ true
filter-passes p [] y c = absurd (Contains-nil y c)
filter-passes p (x ∷ xs) y c = passes_cases p (p x) x y (filter p xs) refl (filter-passes p xs y) c

keeps_cases : {X : Type 0} (b : Bool) (x y : X) (xs ys : List X) → (x ≡ y → b ≡ true) → (Contains xs y → Contains ys y) → Contains (x ∷ xs) y → Contains (cond b (x ∷ ys) ys) y
keeps_cases true x y xs ys e h c = elim (Contains-cons_cases x xs y c) [ inl f ↦ subst (Contains (x ∷ ys)) f (Contains-here x ys) | inr d ↦ Contains-there x ys y (h d) ]
keeps_cases false x y xs ys e h c = elim (Contains-cons_cases x xs y c) [ inl f ↦ absurd (false≢true (e f)) | inr d ↦ h d ]

-- an element that passes is kept
pub Contains-filter : {X : Type 0} (p : X → Bool) (xs : List X) (y : X) → p y ≡ true → Contains xs y → Contains (filter p xs) y
Contains-filter p [] y e c = c
Contains-filter p (x ∷ xs) y e c = keeps_cases (p x) x y xs (filter p xs) (λ f. ap p f ∙ e) (Contains-filter p xs y e) c

-- ---- texts in another order, by how often each stands in the list

-- texts of which each stands as often in both lists are one list in another order
pub IsPermutation-from_counts : (xs ys : List (List ℕ)) → ((t : List ℕ) → sum_by (once t) xs ≡ sum_by (once t) ys) → IsPermutation xs ys
IsPermutation-from_counts [] [] same = IsPermutation-refl []
IsPermutation-from_counts [] (y ∷ ys) same =
    let a = same y in let b : sum_by (once y) (y ∷ ys) ≡ once y y + sum_by (once y) ys = sum_by-cons (once y) y ys in let e = once-same y in absurd (omega arith)
IsPermutation-from_counts (x ∷ xs) ys same =
    let a : sum_by (once x) (x ∷ xs) ≡ once x x + sum_by (once x) xs = sum_by-cons (once x) x xs in
    let e = once-same x in
    let s = same x in
    let found = count-Contains x ys (omega arith) in
    let moved : IsPermutation ys (x ∷ remove ys found.0) = IsPermutation-remove ys found.0 x found.1 (sym found.2) in
    let rest : (t : List ℕ) → sum_by (once t) xs ≡ sum_by (once t) (remove ys found.0) = λ t.
    let s = same t in
    let m : sum_by (once t) (x ∷ remove ys found.0) ≡ sum_by (once t) ys = sum_by-IsPermutation (once t) ys (x ∷ remove ys found.0) moved in
    let h : sum_by (once t) (x ∷ xs) ≡ once t x + sum_by (once t) xs = sum_by-cons (once t) x xs in
    let k : sum_by (once t) (x ∷ remove ys found.0) ≡ once t x + sum_by (once t) (remove ys found.0) = sum_by-cons (once t) x (remove ys found.0) in
    omega arith in
    IsPermutation-trans (x ∷ xs) (x ∷ remove ys found.0) ys (IsPermutation-cons x xs (remove ys found.0) (IsPermutation-from_counts xs (remove ys found.0) rest)) (IsPermutation-sym ys (x ∷ remove ys found.0) moved)
