-- Lists in another order, lists without repeats, and what a map of the elements keeps.
use Rattle.std.proofs.Common.{◌≡◌, ℕ, zero, suc, ◌+◌, ◌<◌, List, [], ◌∷◌, ◌++◌, map, length, get_or, set, refl, sym, ap, ◌∙◌, subst, ⊎_elim, arith, Bool, true, false, cond, ◌||◌, filter, Contains, append_assoc}
use Rattle.std.specs.List.{AllByRecursion, AllZip, flat_map, list_any, swap, remove, sum_by}
use Rattle.std.specs.List.Sorted.{IsPermutation}
use Rattle.std.proofs.lemmas.List.{get_or_default}
use Rattle.std.proofs.lemmas.List.Elements.{All-from_recursion, recursion_from_All}
use Rattle.std.proofs.lemmas.List.Sums.{sum_by-cons}
use Rattle.std.proofs.lemmas.List.Sorted.{IsPermutation-refl, IsPermutation-sym, IsPermutation-trans, IsPermutation-cons, IsPermutation-middle, IsPermutation-keeps, IsPermutation-append_left, IsPermutation-append_right, IsPermutation-append_comm, IsPermutation-remove, All-permutation, Contains-permutation}
use Rattle.base_types.specs.Sets.{AllDiffer, SameElements}
use Rattle.base_types.proofs.Lists.{Contains-here, Contains-there, Contains-cons_cases, Contains-nil, SameElements-trans}
use Rattle.nquads.proofs.ReadingElements.{AllDiffer-head, AllDiffer-tail, AllDiffer-cons}

-- ---- what holds of a list in another order

-- what passes through exchanges of the first two elements passes through every change of order
module _ {X : Type 0} (P : List X → List X → Type 0) (stays : (xs : List X) → P xs xs) (again : (xs ys zs : List X) → P xs ys → P ys zs → P xs zs) (under : (x : X) (xs ys : List X) → P xs ys → P (x ∷ xs) (x ∷ ys)) (exchange : (x y : X) (xs : List X) → P (x ∷ (y ∷ xs)) (y ∷ (x ∷ xs))) where
  first_with : (x : X) (xs : List X) (j : ℕ) → P (x ∷ xs) (get_or xs j x ∷ set xs j x)
  first_with x [] zero = stays (x ∷ [])
  first_with x [] (suc j) = stays (x ∷ [])
  first_with x (y ∷ ys) zero = exchange x y ys
  first_with x (y ∷ ys) (suc j) =
      again (x ∷ (y ∷ ys)) (y ∷ (x ∷ ys)) (get_or ys j x ∷ (y ∷ set ys j x)) (exchange x y ys)
      (again (y ∷ (x ∷ ys)) (y ∷ (get_or ys j x ∷ set ys j x)) (get_or ys j x ∷ (y ∷ set ys j x)) (under y (x ∷ ys) (get_or ys j x ∷ set ys j x) (first_with x ys j)) (exchange y (get_or ys j x) (set ys j x)))

  two_exchanged : (xs : List X) (i j : ℕ) (d : X) → i < length xs → j < length xs → P xs (set (set xs i (get_or xs j d)) j (get_or xs i d))
  two_exchanged [] i j d p q = absurd (omega arith)
  two_exchanged (x ∷ xs) zero zero d p q = stays (x ∷ xs)
  two_exchanged (x ∷ xs) zero (suc j) d p q = subst (λ y. P (x ∷ xs) (y ∷ set xs j x)) (get_or_default xs j x d (omega arith)) (first_with x xs j)
  two_exchanged (x ∷ xs) (suc i) zero d p q = subst (λ y. P (x ∷ xs) (y ∷ set xs i x)) (get_or_default xs i x d (omega arith)) (first_with x xs i)
  two_exchanged (x ∷ xs) (suc i) (suc j) d p q = under x xs (set (set xs i (get_or xs j d)) j (get_or xs i d)) (two_exchanged xs i j d (omega arith) (omega arith))

  one_swap : (xs : List X) (i j : ℕ) → i < length xs → j < length xs → P xs (swap xs i j)
  one_swap [] i j p q = absurd (omega arith)
  one_swap (x ∷ xs) i j p q = two_exchanged (x ∷ xs) i j x p q

  pub through_permutation : (xs ys : List X) → IsPermutation xs ys → P xs ys
  through_permutation xs ys s = IsPermutation-keeps xs (λ l. P xs l) (stays xs) (λ l i j p q h. again xs l (swap l i j) h (one_swap l i j p q)) ys s

module _ {X : Type 0} (t : X → Bool) where
  under_test : (b : Bool) (x : X) (us vs : List X) → IsPermutation us vs → IsPermutation (cond b (x ∷ us) us) (cond b (x ∷ vs) vs)
  under_test true x us vs p = IsPermutation-cons x us vs p
  under_test false x us vs p = p

  exchanged_tests : (b c : Bool) (x y : X) (us : List X) → IsPermutation (cond b (x ∷ cond c (y ∷ us) us) (cond c (y ∷ us) us)) (cond c (y ∷ cond b (x ∷ us) us) (cond b (x ∷ us) us))
  exchanged_tests true true x y us = IsPermutation-middle (x ∷ []) y us
  exchanged_tests true false x y us = IsPermutation-refl (x ∷ us)
  exchanged_tests false true x y us = IsPermutation-refl (y ∷ us)
  exchanged_tests false false x y us = IsPermutation-refl us

  pub IsPermutation-filter : (xs ys : List X) → IsPermutation xs ys → IsPermutation (filter t xs) (filter t ys)
  IsPermutation-filter =
      through_permutation (λ us vs. IsPermutation (filter t us) (filter t vs))
      (λ us. IsPermutation-refl (filter t us))
      (λ us vs ws p q. IsPermutation-trans (filter t us) (filter t vs) (filter t ws) p q)
      (λ x us vs p. under_test (t x) x (filter t us) (filter t vs) p)
      (λ x y us. exchanged_tests (t x) (t y) x y (filter t us))

module _ {X Y : Type 0} (g : X → List Y) where
  exchanged_parts : (us vs ws : List Y) → IsPermutation (us ++ (vs ++ ws)) (vs ++ (us ++ ws))
  exchanged_parts us vs ws =
      subst (λ l. IsPermutation l (vs ++ (us ++ ws))) (append_assoc us vs ws)
      (subst (λ l. IsPermutation ((us ++ vs) ++ ws) l) (append_assoc vs us ws) (IsPermutation-append_left ws (us ++ vs) (vs ++ us) (IsPermutation-append_comm us vs)))

  pub IsPermutation-flat_map : (xs ys : List X) → IsPermutation xs ys → IsPermutation (flat_map g xs) (flat_map g ys)
  IsPermutation-flat_map =
      through_permutation (λ us vs. IsPermutation (flat_map g us) (flat_map g vs))
      (λ us. IsPermutation-refl (flat_map g us))
      (λ us vs ws p q. IsPermutation-trans (flat_map g us) (flat_map g vs) (flat_map g ws) p q)
      (λ x us vs p. IsPermutation-append_right (g x) (flat_map g us) (flat_map g vs) p)
      (λ x y us. exchanged_parts (g x) (g y) (flat_map g us))

-- a list zipped with another in another order: the other one goes along
module _ {X Y : Type 0} (R : X → Y → Type 0) where
  pub record Along (us : List Y) (ys : List X) : Type 0 where
    pub others : List Y
    pub order : IsPermutation us others
    pub zipped : AllZip R ys others

  along_under : (x : X) (xs ys : List X) → ((us : List Y) → AllZip R xs us → Along us ys) → (us : List Y) → AllZip R (x ∷ xs) us → Along us (x ∷ ys)
  along_under x xs ys h [] z = absurd z
  along_under x xs ys h (u ∷ us) z =
      let r = h us z.1 in
      record { others = u ∷ r.others; order = IsPermutation-cons u us r.others r.order; zipped = (z.0, r.zipped) }

  along_exchange : (x y : X) (xs : List X) (us : List Y) → AllZip R (x ∷ (y ∷ xs)) us → Along us (y ∷ (x ∷ xs))
  along_exchange x y xs [] z = absurd z
  along_exchange x y xs (u ∷ []) z = absurd z.1
  along_exchange x y xs (u ∷ (w ∷ us)) z = record { others = w ∷ (u ∷ us); order = IsPermutation-middle (u ∷ []) w us; zipped = (z.1.0, (z.0, z.1.1)) }

  pub AllZip-permutation : (xs ys : List X) → IsPermutation xs ys → (us : List Y) → AllZip R xs us → Along us ys
  AllZip-permutation =
      through_permutation (λ ys zs. (us : List Y) → AllZip R ys us → Along us zs)
      (λ ys us z. record { others = us; order = IsPermutation-refl us; zipped = z })
      (λ xs ys zs p q us z. let a = p us z in let b = q a.others a.zipped in record { others = b.others; order = IsPermutation-trans us a.others b.others a.order b.order; zipped = b.zipped })
      along_under along_exchange

-- ---- lists without repeats

module _ {X : Type 0} where
  pub SameElements-permutation : (xs ys : List X) → IsPermutation xs ys → SameElements xs ys
  SameElements-permutation xs ys s x = (λ m. Contains-permutation xs ys x s m, λ m. Contains-permutation ys xs x (IsPermutation-sym xs ys s) m)

  record Reordered (us vs : List X) : Type 0 where
    pub order : IsPermutation us vs
    pub differ : AllDiffer us → AllDiffer vs

  reordered_under : (x : X) (us vs : List X) → Reordered us vs → Reordered (x ∷ us) (x ∷ vs)
  reordered_under x us vs r = record {
    order = IsPermutation-cons x us vs r.order;
    differ = λ a. AllDiffer-cons x vs (λ m. AllDiffer-head x us a (Contains-permutation vs us x (IsPermutation-sym us vs r.order) m)) (r.differ (AllDiffer-tail x us a));
  }

  reordered_exchange : (x y : X) (us : List X) → Reordered (x ∷ (y ∷ us)) (y ∷ (x ∷ us))
  reordered_exchange x y us = record {
    order = IsPermutation-middle (x ∷ []) y us;
    differ = λ a.
        let b : AllDiffer (y ∷ us) = AllDiffer-tail x (y ∷ us) a in
        AllDiffer-cons y (x ∷ us)
        (λ m. ⊎_elim (λ e. AllDiffer-head x (y ∷ us) a (subst (Contains (y ∷ us)) (sym e) (Contains-here y us))) (λ n. AllDiffer-head y us b n) (Contains-cons_cases x us y m))
        (AllDiffer-cons x us (λ m. AllDiffer-head x (y ∷ us) a (Contains-there y us x m)) (AllDiffer-tail y us b));
  }

  reordered : (xs ys : List X) → IsPermutation xs ys → Reordered xs ys
  reordered =
      through_permutation Reordered (λ us. record { order = IsPermutation-refl us; differ = λ a. a })
      (λ us vs ws p q. record { order = IsPermutation-trans us vs ws p.order q.order; differ = λ a. q.differ (p.differ a) })
      reordered_under reordered_exchange

  pub AllDiffer-permutation : (xs ys : List X) → IsPermutation xs ys → AllDiffer xs → AllDiffer ys
  AllDiffer-permutation xs ys s = (reordered xs ys s).differ

  tail_elements : (x : X) (xs ys : List X) → AllDiffer (x ∷ xs) → SameElements (x ∷ xs) (x ∷ ys) → (z : X) → Contains xs z → Contains ys z
  tail_elements x xs ys a s z m =
      ⊎_elim (λ e. absurd (AllDiffer-head x xs a (subst (Contains xs) (sym e) m))) (λ n. n) (Contains-cons_cases x ys z ((s z).0 (Contains-there x xs z m)))

  pub SameElements-tails : (x : X) (xs ys : List X) → AllDiffer (x ∷ xs) → AllDiffer (x ∷ ys) → SameElements (x ∷ xs) (x ∷ ys) → SameElements xs ys
  SameElements-tails x xs ys a b s z = (tail_elements x xs ys a s z, tail_elements x ys xs b (λ y. ((s y).1, (s y).0)) z)

  -- lists without repeats that have the same elements are one list in two orders
  pub IsPermutation-from_elements : (xs ys : List X) → AllDiffer xs → AllDiffer ys → SameElements xs ys → IsPermutation xs ys
  IsPermutation-from_elements [] [] a b s = IsPermutation-refl []
  IsPermutation-from_elements [] (y ∷ ys) a b s = absurd (Contains-nil y ((s y).1 (Contains-here y ys)))
  IsPermutation-from_elements (x ∷ xs) ys a b s =
      let m : Contains ys x = (s x).0 (Contains-here x xs) in
      let rest : List X = remove ys m.0 in
      let moved : IsPermutation ys (x ∷ rest) = IsPermutation-remove ys m.0 x m.1 (sym m.2) in
      let differ : AllDiffer (x ∷ rest) = AllDiffer-permutation ys (x ∷ rest) moved b in
      let same : SameElements (x ∷ xs) (x ∷ rest) = SameElements-trans (x ∷ xs) ys (x ∷ rest) s (SameElements-permutation ys (x ∷ rest) moved) in
      let tails : IsPermutation xs rest = IsPermutation-from_elements xs rest (AllDiffer-tail x xs a) (AllDiffer-tail x rest differ) (SameElements-tails x xs rest a differ same) in
      IsPermutation-trans (x ∷ xs) (x ∷ rest) ys (IsPermutation-cons x xs rest tails) (IsPermutation-sym ys (x ∷ rest) moved)

-- ---- what holds of each element

module _ {X : Type 0} (P : X → Type 0) where
  pub Each-permutation : (xs ys : List X) → IsPermutation xs ys → AllByRecursion P xs → AllByRecursion P ys
  Each-permutation xs ys s h = recursion_from_All P ys (All-permutation P xs ys s (All-from_recursion P xs h))

  pub Each-append : (xs ys : List X) → AllByRecursion P xs → AllByRecursion P ys → AllByRecursion P (xs ++ ys)
  Each-append [] ys h k = k
  Each-append (x ∷ xs) ys h k = (h.0, Each-append xs ys h.1 k)

  pub Each-left : (xs ys : List X) → AllByRecursion P (xs ++ ys) → AllByRecursion P xs
  Each-left [] ys h = tt
  Each-left (x ∷ xs) ys h = (h.0, Each-left xs ys h.1)

  pub Each-right : (xs ys : List X) → AllByRecursion P (xs ++ ys) → AllByRecursion P ys
  Each-right [] ys h = h
  Each-right (x ∷ xs) ys h = Each-right xs ys h.1

  each_if : (b : Bool) (x : X) (xs : List X) → P x → AllByRecursion P xs → AllByRecursion P (cond b (x ∷ xs) xs)
  each_if true x xs p h = (p, h)
  each_if false x xs p h = h

  pub Each-filter : (t : X → Bool) (xs : List X) → AllByRecursion P xs → AllByRecursion P (filter t xs)
  Each-filter t [] h = tt
  Each-filter t (x ∷ xs) h = each_if (t x) x (filter t xs) h.0 (Each-filter t xs h.1)

  pub Each-from_contains : (xs : List X) → ((x : X) → Contains xs x → P x) → AllByRecursion P xs
  Each-from_contains [] h = tt
  Each-from_contains (x ∷ xs) h = (h x (Contains-here x xs), Each-from_contains xs (λ y m. h y (Contains-there x xs y m)))

  pub Each-map : {Y : Type 0} (f : Y → X) (ys : List Y) → AllByRecursion (λ y. P (f y)) ys → AllByRecursion P (map f ys)
  Each-map f [] h = tt
  Each-map f (y ∷ ys) h = (h.0, Each-map f ys h.1)

-- a weaker fact holds of each element too
pub Each-weaker : {X : Type 0} (P Q : X → Type 0) → ((x : X) → P x → Q x) → (xs : List X) → AllByRecursion P xs → AllByRecursion Q xs
Each-weaker P Q w [] h = tt
Each-weaker P Q w (x ∷ xs) h = (w x h.0, Each-weaker P Q w xs h.1)

-- ---- lists of mapped elements

-- functions that agree on each element have one list of images
pub map-agree : {X Y : Type 0} (P : X → Type 0) (f g : X → Y) → ((x : X) → P x → f x ≡ g x) → (xs : List X) → AllByRecursion P xs → map f xs ≡ map g xs
map-agree P f g e [] h = refl
map-agree P f g e (x ∷ xs) h = rw (e x h.0, map-agree P f g e xs h.1) refl

cond-map : {X Y : Type 0} (f : X → Y) (b : Bool) (x : X) (xs : List X) → cond b (f x ∷ map f xs) (map f xs) ≡ map f (cond b (x ∷ xs) xs)
cond-map f true x xs = refl
cond-map f false x xs = refl

-- to test the images is to take the images of what passes
pub filter-map : {X Y : Type 0} (P : X → Type 0) (f : X → Y) (t : X → Bool) (u : Y → Bool) → ((x : X) → P x → u (f x) ≡ t x) → (xs : List X) → AllByRecursion P xs → filter u (map f xs) ≡ map f (filter t xs)
filter-map P f t u e [] h = refl
filter-map P f t u e (x ∷ xs) h = rw (e x h.0, filter-map P f t u e xs h.1) (cond-map f (t x) x (filter t xs))

-- some image passes exactly where some element does
pub list_any-map : {X Y : Type 0} (P : X → Type 0) (f : X → Y) (t : X → Bool) (u : Y → Bool) → ((x : X) → P x → u (f x) ≡ t x) → (xs : List X) → AllByRecursion P xs → list_any u (map f xs) ≡ list_any t xs
list_any-map P f t u e [] h = refl
list_any-map P f t u e (x ∷ xs) h = rw (e x h.0, list_any-map P f t u e xs h.1) refl

-- a sum over images is the sum over the elements of what they give
pub sum_by-map : {X Y : Type 0} (f : X → Y) (g : Y → ℕ) (xs : List X) → sum_by g (map f xs) ≡ sum_by (λ x. g (f x)) xs
sum_by-map f g [] = refl
sum_by-map f g (x ∷ xs) = sum_by-cons g (f x) (map f xs) ∙ ap (λ n. g (f x) + n) (sum_by-map f g xs) ∙ sym (sum_by-cons (λ y. g (f y)) x xs)

-- some image passes exactly where the image of some element does
pub list_any-map_each : {X Y : Type 0} (f : X → Y) (u : Y → Bool) (xs : List X) → list_any u (map f xs) ≡ list_any (λ x. u (f x)) xs
list_any-map_each f u [] = refl
list_any-map_each f u (x ∷ xs) = ap (λ b. u (f x) || b) (list_any-map_each f u xs)

-- to test the images is to take the images of the elements whose image passes
pub filter-map_each : {X Y : Type 0} (f : X → Y) (u : Y → Bool) (xs : List X) → filter u (map f xs) ≡ map f (filter (λ x. u (f x)) xs)
filter-map_each f u [] = refl
filter-map_each f u (x ∷ xs) = ap (λ l. cond (u (f x)) (f x ∷ l) l) (filter-map_each f u xs) ∙ cond-map f (u (f x)) x (filter (λ y. u (f y)) xs)

-- a list in another order, of mapped elements, is that of a list in another order
module _ {X Y : Type 0} (f : X → Y) where
  pub record Pulled (xs : List X) (vs : List Y) : Type 0 where
    pub from : List X
    pub order : IsPermutation xs from
    pub is : map f from ≡ vs

  pulled_under : (y : Y) (us vs : List Y) → ((xs : List X) → map f xs ≡ us → Pulled xs vs) → (xs : List X) → map f xs ≡ y ∷ us → Pulled xs (y ∷ vs)
  pulled_under y us vs h [] e = absurd (cc)
  pulled_under y us vs h (x ∷ xs) e =
      let head : f x ≡ y = cc in
      let tail : map f xs ≡ us = cc in
      let r = h xs tail in
      record { from = x ∷ r.from; order = IsPermutation-cons x xs r.from r.order; is = ap (λ z. z ∷ map f r.from) head ∙ ap (λ l. y ∷ l) r.is }

  pulled_exchange : (y z : Y) (us : List Y) (xs : List X) → map f xs ≡ y ∷ (z ∷ us) → Pulled xs (z ∷ (y ∷ us))
  pulled_exchange y z us [] e = absurd (cc)
  pulled_exchange y z us (x ∷ []) e = absurd (cc)
  pulled_exchange y z us (x ∷ (u ∷ xs)) e =
      let first : f x ≡ y = cc in
      let second : f u ≡ z = cc in
      let tail : map f xs ≡ us = cc in
      record { from = u ∷ (x ∷ xs); order = IsPermutation-middle (x ∷ []) u xs; is = ap (λ b. b ∷ (f x ∷ map f xs)) second ∙ ap (λ b. z ∷ (b ∷ map f xs)) first ∙ ap (λ l. z ∷ (y ∷ l)) tail }

  pulled : (us vs : List Y) → IsPermutation us vs → (xs : List X) → map f xs ≡ us → Pulled xs vs
  pulled =
      through_permutation (λ us vs. (xs : List X) → map f xs ≡ us → Pulled xs vs)
      (λ us xs e. record { from = xs; order = IsPermutation-refl xs; is = e })
      (λ us vs ws p q xs e. let a = p xs e in let b = q a.from a.is in record { from = b.from; order = IsPermutation-trans xs a.from b.from a.order b.order; is = b.is })
      pulled_under pulled_exchange

  pub pull_back : (xs : List X) (vs : List Y) → IsPermutation (map f xs) vs → Pulled xs vs
  pull_back xs vs s = pulled (map f xs) vs s xs refl

  pub map-injective : (P : X → Type 0) → ((x y : X) → P x → P y → f x ≡ f y → x ≡ y) → (xs ys : List X) → AllByRecursion P xs → AllByRecursion P ys → map f xs ≡ map f ys → xs ≡ ys
  map-injective P o [] [] h k e = refl
  map-injective P o [] (y ∷ ys) h k e = absurd (cc)
  map-injective P o (x ∷ xs) [] h k e = absurd (cc)
  map-injective P o (x ∷ xs) (y ∷ ys) h k e =
      let head : f x ≡ f y = cc in
      let tail : map f xs ≡ map f ys = cc in
      ap (λ z. z ∷ xs) (o x y h.0 k.0 head) ∙ ap (λ l. y ∷ l) (map-injective P o xs ys h.1 k.1 tail)
