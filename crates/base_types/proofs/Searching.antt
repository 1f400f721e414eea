-- Lists of which each element passes a test together with the next, and what a search by halving finds where keys rise.
use Rattle.std.proofs.Common.{◌≡◌, ℕ, ◌<◌, zero, suc, Bool, true, false, ◌&&◌, List, [], ◌∷◌, map, length, get_or, Some, None, find, Ordering, Less, Equal, Greater, refl, ap, add-one, ◌∙◌, subst, arith, inl, inr}
use Rattle.std.specs.Ordering.{is_lt, is_eq, eq_by_cmp, ordering_reverse, ordering_then}
use Rattle.std.specs.Cmp.{IsTotalOrder}
use Rattle.std.specs.List.{AllWithin, HoldsAt, AllByRecursion}
use Rattle.std.specs.List.Sorted.{IsSortedBy, IsStrictlySortedBy}
use Rattle.std.proofs.lemmas.Bool.{cases_lt, and_parts, and_from}
use Rattle.std.proofs.lemmas.Cmp.{tied_itself}
use Rattle.std.proofs.lemmas.Map.Lookups.{CmpEqualImpliesEq}
use Rattle.base_types.specs.Order.{each_next}

-- ---- each element with the next

-- the test on a list's images
pub each_next-map : {X Y : Type 0} (f : X → Y) (test : Y → Y → Bool) (xs : List X) → each_next test (map f xs) ≡ each_next (λ x y. test (f x) (f y)) xs
each_next-map f test [] = refl
each_next-map f test (x ∷ []) = refl
each_next-map f test (x ∷ (y ∷ ys)) = ap (λ b. test (f x) (f y) && b) (each_next-map f test (y ∷ ys))

-- what holds of a list holds of its rest
pub each_next-tail : {X : Type 0} (test : X → X → Bool) (x : X) (xs : List X) → each_next test (x ∷ xs) ≡ true → each_next test xs ≡ true
each_next-tail test x [] h = refl
each_next-tail test x (y ∷ ys) h = (and_parts (test x y) _ h).1

-- each element and the next one
pub each_next-at : {X : Type 0} (test : X → X → Bool) (xs : List X) (k : ℕ) (d : X) → each_next test xs ≡ true → suc k < length xs → test (get_or xs k d) (get_or xs (suc k) d) ≡ true
each_next-at test [] k d h l = absurd (omega arith)
each_next-at test (x ∷ []) k d h l = absurd (omega arith)
each_next-at test (x ∷ (y ∷ ys)) zero d h l = (and_parts (test x y) _ h).0
each_next-at test (x ∷ (y ∷ ys)) (suc k) d h l = each_next-at test (y ∷ ys) k d (and_parts (test x y) _ h).1 (omega arith)

-- the case `Less` of a comparison
pub is_less : (o : Ordering) → is_lt o ≡ true → o ≡ Less
is_less Less h = refl
is_less Equal h = absurd (cc)
is_less Greater h = absurd (cc)

-- of two comparisons in turn that leave it open, each does
pub both_equal : (o p : Ordering) → ordering_then o p ≡ Equal → (o ≡ Equal) × (p ≡ Equal)
both_equal Less p e = absurd (cc)
both_equal Equal p e = (refl, e)
both_equal Greater p e = absurd (cc)

-- ---- keys that rise by a total order

module _ {X K : Type 0} {R : K → K → Ordering} (o : IsTotalOrder R) (key : X → K) where
  -- each key is less than the next
  abbrev pub KeysRise : List X → Type 0
  KeysRise xs = each_next (λ x y. is_lt (R (key x) (key y))) xs ≡ true

  less_next : (x y z : X) → is_lt (R (key x) (key y)) ≡ true → is_lt (R (key y) (key z)) ≡ true → is_lt (R (key x) (key z)) ≡ true
  less_next x y z p q = ap is_lt (o.trans (key x) (key y) (key z) (is_less _ p) (is_less _ q))

  -- the first key is less than all after it
  pub first_less : (x : X) (xs : List X) (k : ℕ) (d : X) → KeysRise (x ∷ xs) → k < length xs → is_lt (R (key x) (key (get_or xs k d))) ≡ true
  first_less x [] k d h l = absurd (omega arith)
  first_less x (y ∷ ys) zero d h l = (and_parts (is_lt (R (key x) (key y))) _ h).0
  first_less x (y ∷ ys) (suc k) d h l =
      let both = and_parts (is_lt (R (key x) (key y))) _ h in
      less_next x y (get_or ys k d) both.0 (first_less y ys k d both.1 (omega arith))

  -- such a list is sorted
  pub keys_sorted : (xs : List X) → KeysRise xs → IsSortedBy (λ a b. is_lt (R (key a) (key b))) xs
  keys_sorted xs h k d low high =
      let a = key (get_or xs k d) in
      let b = key (get_or xs (suc k) d) in
      rw add-one (ap is_lt (o.antisymm b a ∙ ap ordering_reverse (is_less _ (each_next-at (λ x y. is_lt (R (key x) (key y))) xs k d h (omega arith)))))

  module _ (E : K → K → Bool) (ties : (x y : K) → E x y ≡ eq_by_cmp R x y) (exact : CmpEqualImpliesEq R) where
    itself : (x : K) → E x x ≡ true
    itself x = ties x x ∙ ap is_eq (tied_itself o x)

    -- the one element of a key is the first of that key
    pub find_at_key : (xs : List X) (k : ℕ) (d : X) → KeysRise xs → k < length xs → find (λ x. E (key x) (key (get_or xs k d))) xs ≡ Some (get_or xs k d)
    find_at_key [] k d h l = absurd (omega arith)
    find_at_key (x ∷ xs) zero d h l = rw (itself (key x))
    find_at_key (x ∷ xs) (suc k) d h l =
        let other : E (key x) (key (get_or xs k d)) ≡ false = ties _ _ ∙ ap is_eq (is_less _ (first_less x xs k d h (omega arith))) in
        rw other (find_at_key xs k d (each_next-tail _ x xs h) (omega arith))

    -- what the search found is the first of that key
    pub find_found : (xs : List X) (wanted : K) (at : ℕ) (x : X) → KeysRise xs → at < length xs → HoldsAt (λ y. R (key y) wanted ≡ Equal) xs at → find (λ y. E (key y) wanted) xs ≡ Some (get_or xs at x)
    find_found xs wanted at x up within equal =
        let same : key (get_or xs at x) ≡ wanted = exact (key (get_or xs at x)) wanted (equal x) in
        subst (λ (k : K). find (λ y. E (key y) k) xs ≡ Some (get_or xs at x)) same (find_at_key xs at x up within)

    absent : (xs : List X) (wanted : K) → ((k : ℕ) (d : X) → k < length xs → E (key (get_or xs k d)) wanted ≡ false) → find (λ y. E (key y) wanted) xs ≡ None
    absent [] wanted h = refl
    absent (x ∷ xs) wanted h = rw (h 0 x (omega arith)) (absent xs wanted (λ k d l. h (suc k) d (omega arith)))

    -- where the search found none there is none
    pub find_nowhere : (xs : List X) (wanted : K) (at : ℕ) → AllWithin (λ y. R (key y) wanted ≡ Less) xs 0 at → AllWithin (λ y. R (key y) wanted ≡ Greater) xs at (length xs) → find (λ y. E (key y) wanted) xs ≡ None
    find_nowhere xs wanted at low high =
        absent xs wanted (λ k d l. ties (key (get_or xs k d)) wanted ∙ elim (cases_lt k at) [ inl h ↦ ap is_eq (low k d (omega arith) h) | inr h ↦ ap is_eq (high k d h l) ])

-- ---- lists in strict order

module _ {K : Type 0} {R : K → K → Ordering} (o : IsTotalOrder R) where
  all_later : (x y : K) (zs : List K) → R x y ≡ Less → AllByRecursion (λ z. R y z ≡ Less) zs → AllByRecursion (λ z. R x z ≡ Less) zs
  all_later x y [] less all = tt
  all_later x y (z ∷ zs) less all = (o.trans x y z less all.0, all_later x y zs less all.1)

  -- where each is less than the next, each is less than all after it
  pub strict_from_next : (xs : List K) → each_next (λ x y. is_lt (R x y)) xs ≡ true → IsStrictlySortedBy R xs
  unfolding IsStrictlySortedBy
  strict_from_next [] h = tt
  strict_from_next (x ∷ []) h = (tt, tt)
  strict_from_next (x ∷ (y ∷ ys)) h =
      let both = and_parts (is_lt (R x y)) _ h in
      let less = is_less _ both.0 in
      let rest = strict_from_next (y ∷ ys) both.1 in
      ((less, all_later x y ys less rest.0), rest)

  -- and back
  pub next_from_strict : (xs : List K) → IsStrictlySortedBy R xs → each_next (λ x y. is_lt (R x y)) xs ≡ true
  unfolding IsStrictlySortedBy
  next_from_strict [] s = refl
  next_from_strict (x ∷ []) s = refl
  next_from_strict (x ∷ (y ∷ ys)) s = and_from (is_lt (R x y)) _ (ap is_lt s.0.0) (next_from_strict (y ∷ ys) s.1)
