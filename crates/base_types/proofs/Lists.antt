-- Membership of a list by its head and its tail, and lists in strict order.
use Rattle.std.proofs.Common.{◌≡◌, ℕ, Bool, ◌||◌, zero, suc, ◌+◌, ◌<◌, List, [], ◌∷◌, ◌++◌, length, drop, get_or, Option, Some, refl, sym, ap, ◌∙◌, subst, inl, inr, ⊎_elim, arith, Ordering}
use Rattle.std.specs.Prelude.{◌⊎◌, ◌≢◌, Contains, map}
use Rattle.std.specs.List.{AllByRecursion, flat_map, list_any}
use Rattle.std.specs.List.Sorted.{IsStrictlySortedBy}
use Rattle.std.specs.Cmp.{IsTotalOrder}
use Rattle.std.specs.declared.cmp.Ordering.TheVariants.{Less, Equal}
use Rattle.std.specs.Ordering.{ordering_reverse}
use Rattle.std.proofs.Math.ListN.{get_or-map}
use Rattle.std.proofs.lemmas.List.{drop_more, length-map}
use Rattle.std.proofs.lemmas.Cmp.{tied_itself}
use Rattle.std.proofs.lemmas.List.Kept.{AllPairs-cons}
use Rattle.std.proofs.lemmas.List.Elements.{All-from_recursion, Contains-append_left, Contains-append_right, Contains-append_cases}
use Rattle.base_types.specs.Sets.{SameElements, AllDiffer}

-- ---- membership

-- the first element stands in the list
pub Contains-here : {X : Type 0} (x : X) (xs : List X) → Contains (x ∷ xs) x
Contains-here x xs = (0, omega arith, refl)

-- what stands in the rest stands in the list
pub Contains-there : {X : Type 0} (x : X) (xs : List X) (y : X) → Contains xs y → Contains (x ∷ xs) y
Contains-there x xs y (k, below, is) = (suc k, omega arith, is)

-- what stands in a list is its first element or stands in the rest
pub Contains-cons_cases : {X : Type 0} (x : X) (xs : List X) (y : X) → Contains (x ∷ xs) y → (x ≡ y) ⊎ Contains xs y
Contains-cons_cases x xs y (zero, below, is) = inl is
Contains-cons_cases x xs y (suc k, below, is) = inr (k, omega arith, is)

-- nothing stands in the empty list
pub Contains-nil : {X : Type 0} (y : X) → Contains [] y → ⊥
Contains-nil y (k, below, is) = omega arith

-- what holds of each element holds of one that stands in the list
pub AllByRecursion-contains : {X : Type 0} (P : X → Type 0) (xs : List X) (y : X) → AllByRecursion P xs → Contains xs y → P y
AllByRecursion-contains P [] y all in' = absurd (Contains-nil y in')
AllByRecursion-contains P (x ∷ xs) y all in' =
    ⊎_elim (λ e. subst P e all.0) (λ c. AllByRecursion-contains P xs y all.1 c) (Contains-cons_cases x xs y in')

-- ---- elements by their index

-- what is left of a list, one element on
pub drop-next : {X : Type 0} (xs : List X) (k : ℕ) (x : X) → k < length xs → x ≡ get_or xs k x → drop k xs ≡ x ∷ drop (k + 1) xs
drop-next xs k x within is = drop_more xs k x within ∙ ap (λ y. y ∷ drop (k + 1) xs) (sym is)

-- the next element is that of the rest
pub get_or-next : {X : Type 0} (x : X) (xs : List X) (k : ℕ) (d : X) → get_or (x ∷ xs) (suc k + 1) d ≡ get_or xs (k + 1) d
get_or-next x xs k d = let e : suc k + 1 ≡ suc (k + 1) = omega arith in ap (λ n. get_or (x ∷ xs) n d) e

-- ---- images

-- the images of images
pub map-map : {X Y Z : Type 0} (g : Y → Z) (f : X → Y) (xs : List X) → map g (map f xs) ≡ map (λ x. g (f x)) xs
map-map g f [] = refl
map-map g f (x ∷ xs) = ap (λ zs. g (f x) ∷ zs) (map-map g f xs)

-- whether some image passes a test is whether the image of some element does
pub list_any-map : {X Y : Type 0} (test : Y → Bool) (f : X → Y) (xs : List X) → list_any test (map f xs) ≡ list_any (λ x. test (f x)) xs
list_any-map test f [] = refl
list_any-map test f (x ∷ xs) = ap (λ b. test (f x) || b) (list_any-map test f xs)

-- a list whose images differ has no repeats
pub AllDiffer-images : {X Y : Type 0} (f : X → Y) (xs : List X) → AllDiffer (map f xs) → AllDiffer xs
AllDiffer-images f xs differ i j d below within same =
    let long : length (map f xs) ≡ length xs = length-map xs f in
    differ i j (f d) below (omega arith) (get_or-map f xs i d ∙ ap f same ∙ sym (get_or-map f xs j d))

-- an option has one value
pub same_some : {X : Type 0} (o : Option X) (x y : X) → o ≡ Some x → o ≡ Some y → x ≡ y
same_some o x y p q = cc

-- ---- lists with the same elements

-- a list has the elements of itself
pub SameElements-refl : {X : Type 0} (xs : List X) → SameElements xs xs
SameElements-refl xs x = (λ c. c, λ c. c)

-- and the other way round
pub SameElements-sym : {X : Type 0} (xs ys : List X) → SameElements xs ys → SameElements ys xs
SameElements-sym xs ys s x = ((s x).1, (s x).0)

-- over a list between
pub SameElements-trans : {X : Type 0} (xs ys zs : List X) → SameElements xs ys → SameElements ys zs → SameElements xs zs
SameElements-trans xs ys zs s t x = (λ c. (t x).0 ((s x).0 c), λ c. (s x).1 ((t x).1 c))

-- with one more before both
pub SameElements-cons : {X : Type 0} (x : X) (xs ys : List X) → SameElements xs ys → SameElements (x ∷ xs) (x ∷ ys)
SameElements-cons x xs ys s y = (
  λ c. ⊎_elim (λ e. subst (Contains (x ∷ ys)) e (Contains-here x ys)) (λ d. Contains-there x ys y ((s y).0 d)) (Contains-cons_cases x xs y c),
  λ c. ⊎_elim (λ e. subst (Contains (x ∷ xs)) e (Contains-here x xs)) (λ d. Contains-there x xs y ((s y).1 d)) (Contains-cons_cases x ys y c),
)

-- the image of an element stands among the images
pub Contains-map : {X Y : Type 0} (f : X → Y) (xs : List X) (x : X) → Contains xs x → Contains (map f xs) (f x)
Contains-map f [] x c = absurd (Contains-nil x c)
Contains-map f (y ∷ ys) x c =
    ⊎_elim (λ e. subst (λ z. Contains (f y ∷ map f ys) (f z)) e (Contains-here (f y) (map f ys))) (λ d. Contains-there (f y) (map f ys) (f x) (Contains-map f ys x d)) (Contains-cons_cases y ys x c)

-- what stands among the images is the image of an element
pub Contains-from_map : {X Y : Type 0} (f : X → Y) (xs : List X) (y : Y) → Contains (map f xs) y → (x : X) × Contains xs x × (f x ≡ y)
Contains-from_map f [] y c = absurd (Contains-nil y c)
Contains-from_map f (x ∷ xs) y c =
    ⊎_elim (λ e. (x, Contains-here x xs, e)) (λ d. let found = Contains-from_map f xs y d in (found.0, Contains-there x xs found.0 found.1, found.2)) (Contains-cons_cases (f x) (map f xs) y c)

-- what stands in the list of an element stands in the joined list
pub Contains-flat_map : {X Y : Type 0} (f : X → List Y) (xs : List X) (x : X) (y : Y) → Contains xs x → Contains (f x) y → Contains (flat_map f xs) y
Contains-flat_map f [] x y c d = absurd (Contains-nil x c)
Contains-flat_map f (z ∷ zs) x y c d =
    ⊎_elim (λ e. Contains-append_left (f z) (flat_map f zs) y (subst (λ w. Contains (f w) y) (sym e) d)) (λ k. Contains-append_right (f z) (flat_map f zs) y (Contains-flat_map f zs x y k d)) (Contains-cons_cases z zs x c)

-- what stands in the joined list stands in the list of an element
pub Contains-from_flat_map : {X Y : Type 0} (f : X → List Y) (xs : List X) (y : Y) → Contains (flat_map f xs) y → (x : X) × Contains xs x × Contains (f x) y
Contains-from_flat_map f [] y c = absurd (Contains-nil y c)
Contains-from_flat_map f (x ∷ xs) y c =
    ⊎_elim (λ d. (x, Contains-here x xs, d)) (λ d. let found = Contains-from_flat_map f xs y d in (found.0, Contains-there x xs found.0 found.1, found.2)) (Contains-append_cases (f x) (flat_map f xs) y c)

map_one_way : {X Y : Type 0} (f : X → Y) (xs ys : List X) → SameElements xs ys → (y : Y) → Contains (map f xs) y → Contains (map f ys) y
map_one_way f xs ys s y c = let found = Contains-from_map f xs y c in subst (Contains (map f ys)) found.2 (Contains-map f ys found.0 ((s found.0).0 found.1))

-- the images of lists with the same elements
pub SameElements-map : {X Y : Type 0} (f : X → Y) (xs ys : List X) → SameElements xs ys → SameElements (map f xs) (map f ys)
SameElements-map f xs ys s y = (map_one_way f xs ys s y, map_one_way f ys xs (SameElements-sym xs ys s) y)

-- ---- lists in strict order

module _ {X : Type 0} {R : X → X → Ordering} (o : IsTotalOrder R) where
  -- what is less differs
  pub irreflexive : (x y : X) → R x y ≡ Less → x ≢ y
  irreflexive x y less same =
      let itself : R x y ≡ Equal = subst (λ z. R x z ≡ Equal) same (tied_itself o x) in
      cc

  -- of two elements not each is less than the other
  pub asymmetric : (x y : X) → R x y ≡ Less → R y x ≡ Less → ⊥
  asymmetric x y less more = let a = o.antisymm x y in let b = ap ordering_reverse more in cc

  strict_tail : (x : X) (xs ys : List X) → AllByRecursion (λ y. R x y ≡ Less) xs → (z : X) → Contains xs z → Contains (x ∷ ys) z → Contains ys z
  strict_tail x xs ys below z in' there =
      ⊎_elim (λ e. absurd (irreflexive x z (AllByRecursion-contains (λ y. R x y ≡ Less) xs z below in') e)) (λ c. c) (Contains-cons_cases x ys z there)

  least_same : (x y : X) (xs ys : List X) → AllByRecursion (λ z. R x z ≡ Less) xs → AllByRecursion (λ z. R y z ≡ Less) ys → Contains (y ∷ ys) x → Contains (x ∷ xs) y → x ≡ y
  least_same x y xs ys below above in' there =
      ⊎_elim (λ e. sym e)
      (λ c. ⊎_elim (λ e. e)
      (λ d. absurd (asymmetric x y (AllByRecursion-contains (λ z. R x z ≡ Less) xs y below d) (AllByRecursion-contains (λ z. R y z ≡ Less) ys x above c)))
      (Contains-cons_cases x xs y there))
      (Contains-cons_cases y ys x in')

  -- a strictly sorted list is given by its elements
  pub strictly_sorted-unique : (xs ys : List X) → IsStrictlySortedBy R xs → IsStrictlySortedBy R ys → SameElements xs ys → xs ≡ ys
  unfolding IsStrictlySortedBy
  strictly_sorted-unique [] [] s t same = refl
  strictly_sorted-unique [] (y ∷ ys) s t same = absurd (Contains-nil y ((same y).1 (Contains-here y ys)))
  strictly_sorted-unique (x ∷ xs) [] s t same = absurd (Contains-nil x ((same x).0 (Contains-here x xs)))
  strictly_sorted-unique (x ∷ xs) (y ∷ ys) s t same =
      let e : x ≡ y = least_same x y xs ys s.0 t.0 ((same x).0 (Contains-here x xs)) ((same y).1 (Contains-here y ys)) in
      let above : AllByRecursion (λ z. R x z ≡ Less) ys = subst (λ w. AllByRecursion (λ z. R w z ≡ Less) ys) (sym e) t.0 in
      let alike : SameElements (x ∷ xs) (x ∷ ys) = subst (λ w. SameElements (x ∷ xs) (w ∷ ys)) (sym e) same in
      let rest : SameElements xs ys = λ z. (λ c. strict_tail x xs ys s.0 z c ((alike z).0 (Contains-there x xs z c)), λ c. strict_tail x ys xs above z c ((alike z).1 (Contains-there x ys z c))) in
      let tails : xs ≡ ys = strictly_sorted-unique xs ys s.1 t.1 rest in
      cc

  all_differ : (x : X) (xs : List X) → AllByRecursion (λ y. R x y ≡ Less) xs → AllByRecursion (λ y. x ≢ y) xs
  all_differ x [] below = tt
  all_differ x (y ∷ ys) below = (irreflexive x y below.0, all_differ x ys below.1)

  -- and has no repeats
  pub AllDiffer-strictly_sorted : (xs : List X) → IsStrictlySortedBy R xs → AllDiffer xs
  unfolding IsStrictlySortedBy
  AllDiffer-strictly_sorted [] s = λ i j d below in'. omega arith
  AllDiffer-strictly_sorted (x ∷ xs) s =
      AllPairs-cons (λ y z. y ≢ z) x xs (All-from_recursion (λ y. x ≢ y) xs (all_differ x xs s.0)) (AllDiffer-strictly_sorted xs s.1)

-- of two joined lists whose fronts have one length, the fronts are the same and so is what follows
pub same_fronts : {X : Type 0} (a b r u : List X) → length a ≡ length b → a ++ r ≡ b ++ u → (a ≡ b) × (r ≡ u)
same_fronts [] [] r u long e = (refl, e)
same_fronts [] (y ∷ b) r u long e = absurd (omega arith)
same_fronts (x ∷ a) [] r u long e = absurd (omega arith)
same_fronts (x ∷ a) (y ∷ b) r u long e =
    let shorter : length a ≡ length b = omega arith in
    let tails : a ++ r ≡ b ++ u = cc in
    let rest = same_fronts a b r u shorter tails in
    let first : x ≡ y = cc in
    (cc (first, rest.0), rest.1)
