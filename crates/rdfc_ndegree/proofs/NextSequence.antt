-- The sequences of a list's numbers: which they are, and that the step goes to the next one.
use Rattle.std.proofs.Common.{◌≡◌, ℕ, suc, ◌+◌, ◌<◌, ◌≤◌, List, [], ◌∷◌, ◌++◌, map, filter, length, get_or, refl, sym, ap, ◌∙◌, subst, inl, inr, ⊎_elim, arith, Bool, true, false, cond, not, ◌==◌, nat_lt}
use Rattle.std.specs.Prelude.{◌⊎◌, ◌↔◌, Contains, reverse, flat_map}
use Rattle.std.specs.List.{AllByRecursion, sum_by}
use Rattle.std.specs.List.Sorted.{IsPermutation, IsStrictlySortedBy, IsSorted}
use Rattle.std.specs.Cmp.Lexicographic.{nat_list_cmp_total}
use Rattle.std.specs.Ordering.{is_le, nat_cmp, ordering_reverse}
use Rattle.std.specs.declared.cmp.Ordering.TheVariants.{Less}
use Rattle.std.proofs.lemmas.Bool.Decides.{nat_tests}
use Rattle.std.proofs.lemmas.List.{reverse-append}
use Rattle.std.proofs.lemmas.List.Sums.{sum_by-cons}
use Rattle.std.proofs.lemmas.List.Kept.{IsStrictlySortedBy-filter}
use Rattle.std.proofs.lemmas.List.Sorted.{IsPermutation-refl, IsPermutation-sym, IsPermutation-trans, IsPermutation-cons, IsPermutation-middle, IsPermutation-reverse, sum_by-IsPermutation, IsNonDecreasingBy-from_sort}
use Rattle.base_types.specs.Order.{is_upto, sorted_set}
use Rattle.base_types.specs.Sets.{SameElements}
use Rattle.base_types.proofs.Lists.{Contains-here, Contains-there, Contains-cons_cases, Contains-nil, Contains-map, Contains-from_map, strictly_sorted-unique, AllDiffer-strictly_sorted, Contains-flat_map, Contains-from_flat_map}
use Rattle.base_types.proofs.Orders.{text_cmp, is_upto-cmp, by_cmp, is_upto-refl, is_upto-antisymmetric, is_upto-transitive, less_upto}
use Rattle.base_types.proofs.Rising.{rising-rises, rising-same}
use Rattle.rdfc_ndegree.specs.NDegree.{AreArrangements}
use Rattle.rdfc_ndegree.proofs.Membership.{Contains-filter, Contains-from_filter}
use Rattle.rdfc_ndegree.proofs.Permutations.{Each-from_contains}
use Rattle.rdfc_ndegree.specs.Sequences.{put_everywhere, orders_of, left_from}
use Rattle.rdfc_ndegree.specs.Internal.Sequences.{Falls, IsStep, Advances}

-- ---- how often a number stands in a list

abbrev once : ℕ → ℕ → ℕ
once z x = cond (x == z) 1 0

times : ℕ → List ℕ → ℕ
times z [] = 0
times z (x ∷ xs) = once z x + times z xs

abbrev Alike : List ℕ → List ℕ → Type 0
Alike xs ys = (z : ℕ) → times z xs ≡ times z ys

times-sum : (z : ℕ) (xs : List ℕ) → times z xs ≡ sum_by (once z) xs
unfolding times
times-sum z [] = refl
times-sum z (x ∷ xs) = ap (λ n. once z x + n) (times-sum z xs) ∙ sym (sum_by-cons (once z) x xs)

Alike-permutation : (xs ys : List ℕ) → IsPermutation xs ys → Alike xs ys
Alike-permutation xs ys moved z = times-sum z xs ∙ sym (sum_by-IsPermutation (once z) xs ys moved) ∙ sym (times-sum z ys)

once-same : (z : ℕ) → once z z ≡ 1
once-same z = let e : (z == z) ≡ true = grind (arith, nat_tests) in rw e refl

times-head : (x : ℕ) (xs : List ℕ) → 0 < times x (x ∷ xs)
unfolding times
times-head x xs = let e = once-same x in omega arith

-- a number that stands in the list parts it
record Parts (z : ℕ) (xs : List ℕ) : Type 0 where
  before : List ℕ
  after : List ℕ
  is : xs ≡ before ++ z ∷ after

parts : (z : ℕ) (xs : List ℕ) → 0 < times z xs → Parts z xs
unfolding times
parts z [] some = absurd (omega arith)
parts z (x ∷ xs) some = go (x == z) refl (λ more. parts z xs more)
  where
    go : (b : Bool) → (x == z) ≡ b → (0 < times z xs → Parts z xs) → Parts z (x ∷ xs)
    go true e rest = let same : x ≡ z = grind (arith, nat_tests) in record { before = []; after = xs; is = ap (λ y. y ∷ xs) same }
    go false e rest =
        let none : once z x ≡ 0 = rw e refl in
        let more : 0 < times z xs = omega (arith, none, some) in
        let p = rest more in
        record { before = x ∷ p.before; after = p.after; is = ap (λ ys. x ∷ ys) p.is }

times-middle : (z y : ℕ) (xs ys : List ℕ) → times z (xs ++ y ∷ ys) ≡ once z y + times z (xs ++ ys)
unfolding times
times-middle z y [] ys = refl
times-middle z y (x ∷ xs) ys = let rest = times-middle z y xs ys in omega (arith, rest)

Alike-tail : (x : ℕ) (xs ys : List ℕ) → Alike (x ∷ xs) (x ∷ ys) → Alike xs ys
unfolding times
Alike-tail x xs ys same z = let a : once z x + times z xs ≡ once z x + times z ys = same z in omega (arith, a)

Alike-permutes : (xs ys : List ℕ) → Alike xs ys → IsPermutation xs ys
unfolding times
Alike-permutes [] [] same = IsPermutation-refl []
Alike-permutes [] (y ∷ ys) same = let a = times-head y ys in let b : 0 ≡ times y (y ∷ ys) = same y in absurd (omega (arith, a, b))
Alike-permutes (x ∷ xs) ys same =
    let a = times-head x xs in let b : times x (x ∷ xs) ≡ times x ys = same x in
    let p = parts x ys (omega (arith, a, b)) in
    let rest : Alike xs (p.before ++ p.after) = λ z.
    let c : once z x + times z xs ≡ times z ys = same z in
    let d : times z ys ≡ once z x + times z (p.before ++ p.after) = ap (times z) p.is ∙ times-middle z x p.before p.after in
    omega (arith, c, d) in
    let moved = IsPermutation-cons x xs (p.before ++ p.after) (Alike-permutes xs (p.before ++ p.after) rest) in
    subst (IsPermutation (x ∷ xs)) (sym p.is) (IsPermutation-trans (x ∷ xs) (x ∷ (p.before ++ p.after)) (p.before ++ x ∷ p.after) moved (IsPermutation-sym _ _ (IsPermutation-middle p.before x p.after)))

-- ---- the list in every order

everywhere-moved : (x : ℕ) (ys zs : List ℕ) → Contains (put_everywhere x ys) zs → IsPermutation (x ∷ ys) zs
everywhere-moved x [] zs c = ⊎_elim (λ e. subst (IsPermutation (x ∷ [])) e (IsPermutation-refl (x ∷ []))) (λ d. absurd (Contains-nil zs d)) (Contains-cons_cases (x ∷ []) [] zs c)
everywhere-moved x (y ∷ ys) zs c =
    ⊎_elim (λ e. subst (IsPermutation (x ∷ (y ∷ ys))) e (IsPermutation-refl (x ∷ (y ∷ ys))))
    (λ d. let found = Contains-from_map (λ ws. y ∷ ws) (put_everywhere x ys) zs d in
    let inner = IsPermutation-cons y (x ∷ ys) found.0 (everywhere-moved x ys found.0 found.1) in
    subst (IsPermutation (x ∷ (y ∷ ys))) found.2 (IsPermutation-trans (x ∷ (y ∷ ys)) (y ∷ (x ∷ ys)) (y ∷ found.0) (IsPermutation-sym _ _ (IsPermutation-middle (y ∷ []) x ys)) inner))
    (Contains-cons_cases (x ∷ (y ∷ ys)) (map (λ ws. y ∷ ws) (put_everywhere x ys)) zs c)

everywhere-there : (x : ℕ) (us vs : List ℕ) → Contains (put_everywhere x (us ++ vs)) (us ++ x ∷ vs)
everywhere-there x [] [] = Contains-here (x ∷ []) []
everywhere-there x [] (v ∷ vs) = Contains-here (x ∷ (v ∷ vs)) (map (λ ws. v ∷ ws) (put_everywhere x vs))
everywhere-there x (u ∷ us) vs = Contains-there (x ∷ (u ∷ (us ++ vs))) (map (λ ws. u ∷ ws) (put_everywhere x (us ++ vs))) (u ∷ (us ++ x ∷ vs)) (Contains-map (λ ws. u ∷ ws) (put_everywhere x (us ++ vs)) (us ++ x ∷ vs) (everywhere-there x us vs))

orders-moved : (xs q : List ℕ) → Contains (orders_of xs) q → IsPermutation xs q
unfolding orders_of
orders-moved [] q c = ⊎_elim (λ e. subst (IsPermutation []) e (IsPermutation-refl [])) (λ d. absurd (Contains-nil q d)) (Contains-cons_cases [] [] q c)
orders-moved (x ∷ xs) q c =
    let found = Contains-from_flat_map (put_everywhere x) (orders_of xs) q c in
    IsPermutation-trans (x ∷ xs) (x ∷ found.0) q (IsPermutation-cons x xs found.0 (orders-moved xs found.0 found.1)) (everywhere-moved x found.0 q found.2)

orders-there : (xs q : List ℕ) → Alike xs q → Contains (orders_of xs) q
unfolding orders_of times
orders-there [] [] same = Contains-here [] []
orders-there [] (y ∷ ys) same = let a = times-head y ys in let b : 0 ≡ times y (y ∷ ys) = same y in absurd (omega (arith, a, b))
orders-there (x ∷ xs) q same =
    let a = times-head x xs in let b : times x (x ∷ xs) ≡ times x q = same x in
    let p = parts x q (omega (arith, a, b)) in
    let rest : Alike xs (p.before ++ p.after) = λ z.
    let c : once z x + times z xs ≡ times z q = same z in
    let d : times z q ≡ once z x + times z (p.before ++ p.after) = ap (times z) p.is ∙ times-middle z x p.before p.after in
    omega (arith, c, d) in
    subst (Contains (flat_map (put_everywhere x) (orders_of xs))) (sym p.is) (Contains-flat_map (put_everywhere x) (orders_of xs) (p.before ++ p.after) (p.before ++ x ∷ p.after) (orders-there xs (p.before ++ p.after) rest) (everywhere-there x p.before p.after))

orders-exact : (xs q : List ℕ) → Contains (orders_of xs) q ↔ IsPermutation xs q
orders-exact xs q = (λ c. orders-moved xs q c, λ m. orders-there xs q (Alike-permutation xs q m))

-- ---- the least and the greatest of them

abbrev pub Rises : List ℕ → Type 0
Rises [] = Unit {0}
Rises (x ∷ xs) = AllByRecursion (λ y. x ≤ y) xs × Rises xs

all-times : (P : ℕ → Type 0) (xs : List ℕ) (z : ℕ) → AllByRecursion P xs → 0 < times z xs → P z
unfolding times
all-times P [] z all some = absurd (omega arith)
all-times P (x ∷ xs) z all some = go (x == z) refl (λ more. all-times P xs z all.1 more)
  where
    go : (b : Bool) → (x == z) ≡ b → (0 < times z xs → P z) → P z
    go true e rest = let same : x ≡ z = grind (arith, nat_tests) in subst P same all.0
    go false e rest = let none : once z x ≡ 0 = rw e refl in rest (omega (arith, none, some))

heads-tail : (x y : ℕ) (xs ys : List ℕ) → x ≡ y → Alike (x ∷ xs) (y ∷ ys) → Alike xs ys
heads-tail x y xs ys same alike = Alike-tail y xs ys (subst (λ z. Alike (z ∷ xs) (y ∷ ys)) same alike)

least : (xs ys : List ℕ) → Rises xs → Alike xs ys → is_upto xs ys ≡ true
unfolding times
least [] ys up same = refl
least (x ∷ xs) [] up same = let a = times-head x xs in let b : times x (x ∷ xs) ≡ 0 = same x in absurd (omega (arith, a, b))
least (x ∷ xs) (y ∷ ys) up same = go (x == y) refl (λ alike. least xs ys up.1 alike)
  where
    go : (b : Bool) → (x == y) ≡ b → (Alike xs ys → is_upto xs ys ≡ true) → is_upto (x ∷ xs) (y ∷ ys) ≡ true
    go true e rest = let is : x ≡ y = grind (arith, nat_tests) in rw e (rest (heads-tail x y xs ys is same))
    go false e rest =
        let a = times-head y ys in
        let b : times y (x ∷ xs) ≡ times y (y ∷ ys) = same y in
        let low : x ≤ y = all-times (λ z. x ≤ z) (x ∷ xs) y (omega arith, up.0) (omega (arith, a, b)) in
        let less : nat_lt x y ≡ true = grind (arith, nat_tests) in
        rw e less

greatest : (xs ys : List ℕ) → Falls xs → Alike xs ys → is_upto ys xs ≡ true
unfolding times
greatest xs [] down same = refl
greatest [] (y ∷ ys) down same = let a = times-head y ys in let b : 0 ≡ times y (y ∷ ys) = same y in absurd (omega (arith, a, b))
greatest (x ∷ xs) (y ∷ ys) down same = go (y == x) refl (λ alike. greatest xs ys down.1 alike)
  where
    go : (b : Bool) → (y == x) ≡ b → (Alike xs ys → is_upto ys xs ≡ true) → is_upto (y ∷ ys) (x ∷ xs) ≡ true
    go true e rest = let is : x ≡ y = grind (arith, nat_tests) in rw e (rest (heads-tail x y xs ys is same))
    go false e rest =
        let a = times-head y ys in
        let b : times y (x ∷ xs) ≡ times y (y ∷ ys) = same y in
        let high : y ≤ x = all-times (λ z. z ≤ x) (x ∷ xs) y (omega arith, down.0) (omega (arith, a, b)) in
        let less : nat_lt y x ≡ true = grind (arith, nat_tests) in
        rw e less

-- ---- the step

times-append : (z : ℕ) (xs ys : List ℕ) → times z (xs ++ ys) ≡ times z xs + times z ys
unfolding times
times-append z [] ys = omega arith
times-append z (x ∷ xs) ys = let rest = times-append z xs ys in omega (arith, rest)

times-reverse : (z : ℕ) (xs : List ℕ) → times z (reverse xs) ≡ times z xs
times-reverse z xs = sym (Alike-permutation xs (reverse xs) (IsPermutation-reverse xs) z)

all-push : (P : ℕ → Type 0) (xs : List ℕ) (y : ℕ) → AllByRecursion P xs → P y → AllByRecursion P (xs ++ y ∷ [])
all-push P [] y all p = (p, tt)
all-push P (x ∷ xs) y all p = (all.0, all-push P xs y all.1 p)

all-reverse : (P : ℕ → Type 0) (xs : List ℕ) → AllByRecursion P xs → AllByRecursion P (reverse xs)
all-reverse P [] all = tt
all-reverse P (x ∷ xs) all = subst (AllByRecursion P) (sym (reverse-append (x ∷ []) xs)) (all-push P (reverse xs) x (all-reverse P xs all.1) all.0)

Rises-push : (xs : List ℕ) (y : ℕ) → Rises xs → AllByRecursion (λ x. x ≤ y) xs → Rises (xs ++ y ∷ [])
Rises-push [] y up below = (tt, tt)
Rises-push (x ∷ xs) y up below = (all-push (λ z. x ≤ z) xs y up.0 below.0, Rises-push xs y up.1 below.1)

Rises-reverse : (xs : List ℕ) → Falls xs → Rises (reverse xs)
Rises-reverse [] down = tt
Rises-reverse (x ∷ xs) down = subst Rises (sym (reverse-append (x ∷ []) xs)) (Rises-push (reverse xs) x (Rises-reverse xs down.1) (all-reverse (λ y. y ≤ x) xs down.0))

all-middle : (P : ℕ → Type 0) (us vs : List ℕ) (y : ℕ) → AllByRecursion P (us ++ y ∷ vs) → P y
all-middle P [] vs y all = all.0
all-middle P (u ∷ us) vs y all = all-middle P us vs y all.1

all-other : (P : ℕ → Type 0) (us vs : List ℕ) (y x : ℕ) → AllByRecursion P (us ++ y ∷ vs) → P x → AllByRecursion P (us ++ x ∷ vs)
all-other P [] vs y x all p = (p, all.1)
all-other P (u ∷ us) vs y x all p = (all.0, all-other P us vs y x all.1 p)

Falls-other : (us vs : List ℕ) (y x : ℕ) → Falls (us ++ y ∷ vs) → x < y → AllByRecursion (λ z. z ≤ x) vs → Falls (us ++ x ∷ vs)
Falls-other [] vs y x down over under = (under, down.1)
Falls-other (u ∷ us) vs y x down over under =
    let top : y ≤ u = all-middle (λ z. z ≤ u) us vs y down.0 in
    (all-other (λ z. z ≤ u) us vs y x down.0 (omega (arith, top, over)), Falls-other us vs y x down.1 over under)

-- a number above x is at least y, the last one above x
above-least : (us vs : List ℕ) (y x z : ℕ) → Falls (us ++ y ∷ vs) → AllByRecursion (λ w. w ≤ x) vs → 0 < times z (us ++ y ∷ vs) → x < z → y ≤ z
unfolding times
above-least [] vs y x z down under some over = go (y == z) refl
  where
    go : (b : Bool) → (y == z) ≡ b → y ≤ z
    go true e = grind (arith, nat_tests)
    go false e =
        let none : once z y ≡ 0 = rw e refl in
        let low : z ≤ x = all-times (λ w. w ≤ x) vs z under (omega (arith, none, some)) in
        absurd (omega (arith, low, over))
above-least (u ∷ us) vs y x z down under some over = go (u == z) refl (λ more. above-least us vs y x z down.1 under more over)
  where
    go : (b : Bool) → (u == z) ≡ b → (0 < times z (us ++ y ∷ vs) → y ≤ z) → y ≤ z
    go true e rest =
        let same : u ≡ z = grind (arith, nat_tests) in
        let top : y ≤ u = all-middle (λ w. w ≤ u) us vs y down.0 in
        omega (arith, same, top)
    go false e rest = let none : once z u ≡ 0 = rw e refl in rest (omega (arith, none, some))

module _ (x : ℕ) (us : List ℕ) (y : ℕ) (vs : List ℕ) (down : Falls (us ++ y ∷ vs)) (over : x < y) (under : AllByRecursion (λ z. z ≤ x) vs) where
  tail : List ℕ
  tail = reverse (us ++ x ∷ vs)

  tail-rises : Rises tail
  unfolding tail
  tail-rises = Rises-reverse (us ++ x ∷ vs) (Falls-other us vs y x down over under)

  exchanged : Alike (x ∷ (us ++ y ∷ vs)) (y ∷ tail)
  unfolding times tail
  exchanged z =
      let a = times-middle z y us vs in let b = times-middle z x us vs in let c = times-reverse z (us ++ x ∷ vs) in
      omega (arith, a, b, c)

  next-base : (q : List ℕ) → Alike (x ∷ (us ++ y ∷ vs)) q → is_upto (x ∷ (us ++ y ∷ vs)) q ≡ true → (q ≡ x ∷ (us ++ y ∷ vs)) ⊎ (is_upto (y ∷ tail) q ≡ true)
  unfolding times
  next-base [] same upto = absurd (cc)
  next-base (b ∷ q) same upto = go (x == b) refl (y == b) refl
    where
      go : (c : Bool) → (x == b) ≡ c → (d : Bool) → (y == b) ≡ d → (b ∷ q ≡ x ∷ (us ++ y ∷ vs)) ⊎ (is_upto (y ∷ tail) (b ∷ q) ≡ true)
      go true e d f =
          let is : x ≡ b = grind (arith, nat_tests) in
          let alike = heads-tail x b (us ++ y ∷ vs) q is same in
          let low : is_upto (us ++ y ∷ vs) q ≡ true = rw e at upto in
          let high = greatest (us ++ y ∷ vs) q down alike in
          let equal : q ≡ us ++ y ∷ vs = is_upto-antisymmetric q (us ++ y ∷ vs) high low in
          inl (λ i. sym is i ∷ equal i)
      go false e true f =
          let is : y ≡ b = grind (arith, nat_tests) in
          let moved : Alike (y ∷ tail) (b ∷ q) = λ z. sym (exchanged z) ∙ same z in
          inr (rw f (least tail q tail-rises (heads-tail y b tail q is moved)))
      go false e false f =
          let less : nat_lt x b ≡ true = rw e at upto in
          let over' : x < b = grind (arith, nat_tests) in
          let a = times-head b q in
          let s : once b x + times b (us ++ y ∷ vs) ≡ times b (b ∷ q) = same b in
          let none : once b x ≡ 0 = rw e refl in
          let top : y ≤ b = above-least us vs y x b down under (omega (arith, a, s, none)) over' in
          let more : nat_lt y b ≡ true = grind (arith, nat_tests) in
          inr (rw f more)

  next-after : (ps q : List ℕ) → Alike (ps ++ x ∷ (us ++ y ∷ vs)) q → is_upto (ps ++ x ∷ (us ++ y ∷ vs)) q ≡ true → (q ≡ ps ++ x ∷ (us ++ y ∷ vs)) ⊎ (is_upto (ps ++ y ∷ tail) q ≡ true)
  unfolding times
  next-after [] q same upto = next-base q same upto
  next-after (a ∷ ps) [] same upto = absurd (cc)
  next-after (a ∷ ps) (b ∷ q) same upto = go (a == b) refl (λ alike low. next-after ps q alike low)
    where
      go : (c : Bool) → (a == b) ≡ c → (Alike (ps ++ x ∷ (us ++ y ∷ vs)) q → is_upto (ps ++ x ∷ (us ++ y ∷ vs)) q ≡ true → (q ≡ ps ++ x ∷ (us ++ y ∷ vs)) ⊎ (is_upto (ps ++ y ∷ tail) q ≡ true))
          → (b ∷ q ≡ a ∷ (ps ++ x ∷ (us ++ y ∷ vs))) ⊎ (is_upto (a ∷ (ps ++ y ∷ tail)) (b ∷ q) ≡ true)
      go true e rest =
          let is : a ≡ b = grind (arith, nat_tests) in
          let low : is_upto (ps ++ x ∷ (us ++ y ∷ vs)) q ≡ true = rw e at upto in
          ⊎_elim (λ f. inl (λ i. sym is i ∷ f i)) (λ f. inr (rw e f)) (rest (heads-tail a b (ps ++ x ∷ (us ++ y ∷ vs)) q is same) low)
      go false e rest = let less : nat_lt a b ≡ true = rw e at upto in inr (rw e less)

  new-above : (ps : List ℕ) → is_upto (ps ++ y ∷ tail) (ps ++ x ∷ (us ++ y ∷ vs)) ≡ false
  new-above [] =
      let differ : (y == x) ≡ false = grind (arith, nat_tests) in
      let more : nat_lt y x ≡ false = grind (arith, nat_tests) in
      rw (differ, more) refl
  new-above (a ∷ ps) = let same : (a == a) ≡ true = grind (arith, nat_tests) in rw same (new-above ps)

  step-alike : (ps : List ℕ) → Alike (ps ++ x ∷ (us ++ y ∷ vs)) (ps ++ y ∷ tail)
  step-alike ps z = times-append z ps (x ∷ (us ++ y ∷ vs)) ∙ ap (λ n. times z ps + n) (exchanged z) ∙ sym (times-append z ps (y ∷ tail))

-- ---- those that are left

sequences : List ℕ → List (List ℕ)
sequences p = sorted_set (orders_of p)

sequences-exact : (p q : List ℕ) → Contains (sequences p) q ↔ IsPermutation p q
unfolding sequences
sequences-exact p q = (λ c. (orders-exact p q).0 ((rising-same (orders_of p) q).0 c), λ m. (rising-same (orders_of p) q).1 ((orders-exact p q).1 m))

left-sorted : (p q : List ℕ) → IsStrictlySortedBy text_cmp (filter (is_upto p) (sorted_set (orders_of q)))
left-sorted p q = IsStrictlySortedBy-filter text_cmp (is_upto p) (sorted_set (orders_of q)) (rising-rises (orders_of q))

left-exact : (p q : List ℕ) → Contains (left_from false p) q ↔ (IsPermutation p q × (is_upto p q ≡ true))
unfolding sequences
left-exact p q = (
  λ c. let f = Contains-from_filter (is_upto p) (sorted_set (orders_of p)) q c in ((sequences-exact p q).0 f.0, f.1),
  λ m. Contains-filter (is_upto p) (sorted_set (orders_of p)) q ((sequences-exact p q).1 m.0) m.1,
)

not-back : (t u : List ℕ) → is_upto u t ≡ false → text_cmp t u ≡ Less
not-back t u no' =
    let a = is_upto-cmp u t in
    by_cmp (text_cmp t u ≡ Less) u t
    (λ f. let b = ap is_le f in absurd (cc))
    (λ f. let b = ap is_le f in absurd (cc))
    (λ f. nat_list_cmp_total.antisymm t u ∙ ap ordering_reverse f)

-- where q follows p at once, those left from p are p and those left from q
left-next : (p q : List ℕ) → Alike p q → text_cmp p q ≡ Less → ((r : List ℕ) → Alike p r → is_upto p r ≡ true → (r ≡ p) ⊎ (is_upto q r ≡ true)) → left_from false p ≡ p ∷ left_from false q
unfolding IsStrictlySortedBy
left-next p q alike less next = strictly_sorted-unique nat_list_cmp_total (left_from false p) (p ∷ left_from false q) (left-sorted p p) (below, left-sorted q q) same
  where
    moved : IsPermutation p q
    moved = Alike-permutes p q alike

    below : AllByRecursion (λ r. text_cmp p r ≡ Less) (left_from false q)
    below = Each-from_contains (λ r. text_cmp p r ≡ Less) (left_from false q) (λ r c. less_upto p q r less ((left-exact q r).0 c).1)

    same : SameElements (left_from false p) (p ∷ left_from false q)
    same r = (
      λ c. let m = (left-exact p r).0 c in
          ⊎_elim (λ e. subst (Contains (p ∷ left_from false q)) (sym e) (Contains-here p (left_from false q)))
          (λ f. Contains-there p (left_from false q) r ((left-exact q r).1 (IsPermutation-trans q p r (IsPermutation-sym p q moved) m.0, f)))
          (next r (Alike-permutation p r m.0) m.1),
      λ c. ⊎_elim (λ e. subst (Contains (left_from false p)) e ((left-exact p p).1 (IsPermutation-refl p, is_upto-refl p)))
          (λ d. let m = (left-exact q r).0 d in
          (left-exact p r).1 (IsPermutation-trans p q r moved m.0, is_upto-transitive p q r (is_upto-cmp p q ∙ ap is_le less) m.1))
          (Contains-cons_cases p (left_from false q) r c),
    )

-- behind a sequence come itself and what comes behind the next one
pub left-step : (old new : List ℕ) → IsStep old new → left_from false old ≡ old ∷ left_from false new
unfolding tail
left-step old new s =
    let p = s.before ++ s.pivot ∷ (s.higher ++ s.above ∷ s.lower) in
    let q = s.before ++ s.above ∷ reverse (s.higher ++ s.pivot ∷ s.lower) in
    let one : left_from false p ≡ p ∷ left_from false q = left-next p q
    (step-alike s.pivot s.higher s.above s.lower s.falls s.over s.under s.before)
    (not-back p q (new-above s.pivot s.higher s.above s.lower s.falls s.over s.under s.before))
    (λ r alike low. next-after s.pivot s.higher s.above s.lower s.falls s.over s.under s.before r alike low) in
    rw (s.old_is, s.new_is) one

-- behind a falling sequence comes itself alone
pub left-last : (p : List ℕ) → Falls p → left_from false p ≡ p ∷ []
unfolding IsStrictlySortedBy
left-last p down = strictly_sorted-unique nat_list_cmp_total (left_from false p) (p ∷ []) (left-sorted p p) (tt, tt) (λ r. (
  λ c. let m = (left-exact p r).0 c in
      let equal : r ≡ p = is_upto-antisymmetric r p (greatest p r down (Alike-permutation p r m.0)) m.1 in
      subst (Contains (p ∷ [])) (sym equal) (Contains-here p []),
  λ c. ⊎_elim (λ e. subst (Contains (left_from false p)) e ((left-exact p p).1 (IsPermutation-refl p, is_upto-refl p))) (λ d. absurd (Contains-nil r d)) (Contains-cons_cases p [] r c),
))

-- from the least one on they are all
pub left-all : (members p : List ℕ) → IsPermutation members p → Rises p → AreArrangements members (left_from false p)
left-all members p moved up = record {
  differ = AllDiffer-strictly_sorted nat_list_cmp_total (left_from false p) (left-sorted p p);
  exact = λ q. (
    λ c. IsPermutation-trans members p q moved ((left-exact p q).0 c).0,
    λ m. let from = IsPermutation-trans p members q (IsPermutation-sym members p moved) m in (left-exact p q).1 (from, least p q up (Alike-permutation p q from)),
  );
}

-- ---- what a sort of numbers leaves

Rises-from : (xs : List ℕ) → ((i j : ℕ) → i ≤ j → j < length xs → get_or xs i 0 ≤ get_or xs j 0) → Rises xs
Rises-from [] up = tt
Rises-from (x ∷ xs) up = (all-from xs (λ j in'. up 0 (suc j) (omega arith) (omega arith)), Rises-from xs (λ i j le in'. up (suc i) (suc j) (omega arith) (omega arith)))
  where
    all-from : (ys : List ℕ) → ((j : ℕ) → j < length ys → x ≤ get_or ys j 0) → AllByRecursion (λ y. x ≤ y) ys
    all-from [] each = tt
    all-from (y ∷ ys) each = (each 0 (omega arith), all-from ys (λ j in'. each (suc j) (omega arith)))

-- a sorted list rises
pub Rises-sorted : (xs : List ℕ) → IsSorted nat_cmp xs → Rises xs
Rises-sorted xs up = Rises-from xs (λ i j le in'. IsNonDecreasingBy-from_sort (λ x. x) xs up i j 0 le in')

-- what comes behind the sorted members are their arrangements
pub sorted-arrangements : (members xs ys : List ℕ) → xs ≡ members → IsPermutation xs ys → IsSorted nat_cmp ys → AreArrangements members (left_from false ys)
sorted-arrangements members xs ys same moved up = left-all members ys (subst (λ ms. IsPermutation ms ys) same moved) (Rises-sorted ys up)

-- ---- one step of the program

-- what is left after a step, by whether a next sequence was made
pub left-advance : (old new : List ℕ) (made : Bool) → Advances old new made → left_from false old ≡ old ∷ left_from (not made) new
left-advance old new true step = left-step old new step
left-advance old new false last = left-last old last.0
