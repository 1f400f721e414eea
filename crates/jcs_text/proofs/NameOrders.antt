-- What is in the order of its names: `in_name_order` is what a stable sort by code units leaves.
use Rattle.std.proofs.Common.{◌≡◌, ℕ, zero, suc, ◌+◌, ◌<◌, List, [], ◌∷◌, ◌++◌, map, map-id, length, get_or, Some, Bool, true, false, cond, not, refl, sym, ap, ◌∙◌, subst, arith, slice_get, filter}
use Rattle.std.specs.Prelude.{All}
use Rattle.std.specs.List.{AllByRecursion, range_with_len}
use Rattle.std.specs.List.Sorted.{IsPermutation, IsSortedBy, IsStableBy, ties}
use Rattle.std.specs.Cmp.{IsStrictWeakOrder}
use Rattle.std.specs.Cmp.Lexicographic.{slice_cmp, nat_list_cmp_total}
use Rattle.std.specs.Ordering.{nat_cmp, is_lt}
use Rattle.std.proofs.lemmas.Bool.{and_parts, and_from, true≢false}
use Rattle.std.proofs.lemmas.List.Elements.{recursion_from_All}
use Rattle.std.proofs.lemmas.List.FromFn.{length-range_with_len, get_or-range_with_len, map-range_with_len_more}
use Rattle.std.proofs.lemmas.List.Sorted.{IsPermutation-refl, IsPermutation-sym, IsPermutation-trans, IsPermutation-cons, IsPermutation-middle, All-permutation, ranks_by, sorted_far}
use Rattle.base_types.proofs.Lists.{get_or-next, map-map}
use Rattle.base_types.proofs.Orders.{is_before-strict}
use Rattle.json_tree.specs.declared.tree.Tree.{Tree}
use Rattle.json_tree.specs.declared.tree.Member.{Member}
use Rattle.jcs_text.specs.Canonical.{code_units, is_upto_by_units, put_by_name, in_name_order}
use Rattle.jcs_text.specs.Internal.Naming.{name_in, name_at}

-- ---- lists in order by a test

-- no element is less than one before it
abbrev pub InOrderBy : {X : Type 0} → (X → X → Bool) → List X → Type 0
InOrderBy less [] = Unit {0}
InOrderBy less (x ∷ xs) = AllByRecursion (λ y. less y x ≡ false) xs × InOrderBy less xs

not_true : (b : Bool) → not b ≡ true → b ≡ false
not_true true h = absurd (cc)
not_true false h = refl

-- elements that pass a test are among the list's
from_kept : {X : Type 0} (Q : X → Type 0) (p : X → Bool) (us ws : List X) (w : X) → AllByRecursion Q us → filter p us ≡ w ∷ ws → Q w
from_kept Q p [] ws w all e = absurd (cc)
from_kept {X} Q p (u ∷ us) ws w all e = go (p u) refl (from_kept Q p us ws w all.1)
  where
    go : (b : Bool) → p u ≡ b → (filter p us ≡ w ∷ ws → Q w) → Q w
    go true k later =
        let kept : u ∷ filter p us ≡ w ∷ ws = sym (ap (λ t. cond t (u ∷ filter p us) (filter p us)) k) ∙ e in
        let same : u ≡ w = cc in
        subst Q same all.0
    go false k later = later (sym (ap (λ t. cond t (u ∷ filter p us) (filter p us)) k) ∙ e)

kept_first : {X : Type 0} (p : X → Bool) (x : X) (xs : List X) → p x ≡ true → filter p (x ∷ xs) ≡ x ∷ filter p xs
kept_first p x xs k = ap (λ t. cond t (x ∷ filter p xs) (filter p xs)) k

kept_rest : {X : Type 0} (t : Bool) (x : X) (us vs : List X) → cond t (x ∷ us) us ≡ cond t (x ∷ vs) vs → us ≡ vs
kept_rest true x us vs e = cc
kept_rest false x us vs e = e

module _ {X : Type 0} (less : X → X → Bool) (o : IsStrictWeakOrder less) where
  itself : (x : X) → less x x ≡ false
  itself x = go (less x x) refl
    where
      go : (b : Bool) → less x x ≡ b → less x x ≡ false
      go true e = o.one_way x x e
      go false e = e

  ties_itself : (x : X) → ties less x x ≡ true
  ties_itself x = and_from (not (less x x)) (not (less x x)) (ap not (itself x)) (ap not (itself x))

  least_ties : (x y : X) → less x y ≡ false → less y x ≡ false → ties less x y ≡ true
  least_ties x y e f = and_from (not (less x y)) (not (less y x)) (ap not e) (ap not f)

  -- lists in order that keep the same elements of each tie are the same
  pub in_order-unique : (ys zs : List X) → InOrderBy less ys → InOrderBy less zs → ((x : X) → filter (ties less x) ys ≡ filter (ties less x) zs) → ys ≡ zs
  in_order-unique [] [] up down same = refl
  in_order-unique [] (z ∷ zs) up down same = let e : [] ≡ z ∷ filter (ties less z) zs = same z ∙ kept_first (ties less z) z zs (ties_itself z) in absurd (cc)
  in_order-unique (y ∷ ys) [] up down same = let e : y ∷ filter (ties less y) ys ≡ [] = sym (kept_first (ties less y) y ys (ties_itself y)) ∙ same y in absurd (cc)
  in_order-unique (y ∷ ys) (z ∷ zs) up down same =
      let here : filter (ties less z) (y ∷ ys) ≡ z ∷ filter (ties less z) zs = same z ∙ kept_first (ties less z) z zs (ties_itself z) in
      let there : filter (ties less y) (z ∷ zs) ≡ y ∷ filter (ties less y) ys = sym (same y) ∙ kept_first (ties less y) y ys (ties_itself y) in
      let above : less z y ≡ false = from_kept (λ u. less u y ≡ false) (ties less z) (y ∷ ys) (filter (ties less z) zs) z (itself y, up.0) here in
      let below : less y z ≡ false = from_kept (λ u. less u z ≡ false) (ties less y) (z ∷ zs) (filter (ties less y) ys) y (itself z, down.0) there in
      let first : z ∷ filter (ties less y) zs ≡ y ∷ filter (ties less y) ys = sym (kept_first (ties less y) z zs (least_ties y z below above)) ∙ there in
      let one : z ≡ y = cc in
      let rest : (x : X) → filter (ties less x) ys ≡ filter (ties less x) zs = λ x. kept_rest (ties less x y) y _ _ (same x ∙ ap (λ u. filter (ties less x) (u ∷ zs)) one) in
      let tails : ys ≡ zs = in_order-unique ys zs up.1 down.1 rest in
      cc

  -- a list that is sorted is in order
  pub in_order-sorted : (xs : List X) → IsSortedBy less xs → InOrderBy less xs
  in_order-sorted [] up = tt
  in_order-sorted (x ∷ xs) up =
      let far : All (λ y. less y x ≡ false) xs = λ k d in'. sorted_far less o (x ∷ xs) up 0 (suc k) d (omega arith) (omega arith) in
      (recursion_from_All (λ y. less y x ≡ false) xs far, in_order-sorted xs (λ k d low high. subst (λ u. less u (get_or xs k d) ≡ false) (get_or-next x xs k d) (up (suc k) d (omega arith) (omega arith))))

-- and back
pub sorted-in_order : {X : Type 0} (less : X → X → Bool) (xs : List X) → InOrderBy less xs → IsSortedBy less xs
sorted-in_order less [] up k d low high = absurd (omega arith)
sorted-in_order less (x ∷ []) up k d low high = absurd (omega arith)
sorted-in_order less (x ∷ (y ∷ ys)) up zero d low high = up.0.0
sorted-in_order less (x ∷ (y ∷ ys)) up (suc k) d low high = rw (get_or-next x (y ∷ ys) k d) (sorted-in_order less (y ∷ ys) up.1 k d (omega arith) (omega arith))

-- ---- the order of names

module _ {X : Type 0} (name : X → List ℕ) where
  -- whether the name of x comes before that of y
  abbrev pub is_earlier : X → X → Bool
  is_earlier x y = is_lt (slice_cmp nat_cmp (code_units (name x)) (code_units (name y)))

  -- it is an order in which any two compare
  pub names-ordered : IsStrictWeakOrder is_earlier
  names-ordered = ranks_by nat_list_cmp_total (λ (x : X). code_units (name x))

  not_after : (x y : X) → is_upto_by_units (name x) (name y) ≡ true → is_earlier y x ≡ false
  not_after x y h = is_before-strict (code_units (name y)) (code_units (name x)) ∙ ap not h

  after : (x y : X) → is_upto_by_units (name x) (name y) ≡ false → is_earlier y x ≡ true
  after x y h = is_before-strict (code_units (name y)) (code_units (name x)) ∙ ap not h

  put-all : (P : X → Type 0) (x : X) (ys : List X) → P x → AllByRecursion P ys → AllByRecursion P (put_by_name name x ys)
  put-all P x [] p all = (p, tt)
  put-all P x (y ∷ ys) p all = elim (is_upto_by_units (name x) (name y)) as (λ t. AllByRecursion P (cond t (x ∷ (y ∷ ys)) (y ∷ put_by_name name x ys))) [ true ↦ (p, all) | false ↦ (all.0, put-all P x ys p all.1) ]

  -- what holds of each element holds of each in order
  pub order-all : (P : X → Type 0) (xs : List X) → AllByRecursion P xs → AllByRecursion P (in_name_order name xs)
  order-all P [] all = tt
  order-all P (x ∷ xs) all = put-all P x (in_name_order name xs) all.0 (order-all P xs all.1)

  later_all : (x y : X) (zs : List X) → is_earlier y x ≡ false → AllByRecursion (λ z. is_earlier z y ≡ false) zs → AllByRecursion (λ z. is_earlier z x ≡ false) zs
  later_all x y [] e all = tt
  later_all x y (z ∷ zs) e all = (names-ordered.chain z y x all.0 e, later_all x y zs e all.1)

  put-ordered : (x : X) (ys : List X) → InOrderBy is_earlier ys → InOrderBy is_earlier (put_by_name name x ys)
  put-ordered x [] up = (tt, tt)
  put-ordered x (y ∷ ys) up = go (is_upto_by_units (name x) (name y)) refl (put-ordered x ys up.1)
    where
      go : (t : Bool) → is_upto_by_units (name x) (name y) ≡ t → InOrderBy is_earlier (put_by_name name x ys) → InOrderBy is_earlier (cond t (x ∷ (y ∷ ys)) (y ∷ put_by_name name x ys))
      go true e rest = ((not_after x y e, later_all x y ys (not_after x y e) up.0), up)
      go false e rest = (put-all (λ z. is_earlier z y ≡ false) x ys (names-ordered.one_way y x (after x y e)) up.0, rest)

  -- it is in order
  pub order-ordered : (xs : List X) → InOrderBy is_earlier (in_name_order name xs)
  order-ordered [] = tt
  order-ordered (x ∷ xs) = put-ordered x (in_name_order name xs) (order-ordered xs)

  exchanged : (a b : Bool) (x y : X) (zs : List X) → (a ≡ true → b ≡ true → ⊥) → cond b (y ∷ cond a (x ∷ zs) zs) (cond a (x ∷ zs) zs) ≡ cond a (x ∷ cond b (y ∷ zs) zs) (cond b (y ∷ zs) zs)
  exchanged true true x y zs never = absurd (never refl refl)
  exchanged true false x y zs never = refl
  exchanged false true x y zs never = refl
  exchanged false false x y zs never = refl

  -- what ties with w is upto what ties with it
  tied_apart : (w x y : X) → is_earlier y x ≡ true → ties is_earlier w x ≡ true → ties is_earlier w y ≡ true → ⊥
  tied_apart w x y less a b =
      let low : is_earlier w x ≡ false = not_true _ (and_parts (not (is_earlier w x)) (not (is_earlier x w)) a).0 in
      let high : is_earlier y w ≡ false = not_true _ (and_parts (not (is_earlier w y)) (not (is_earlier y w)) b).1 in
      true≢false (sym less ∙ names-ordered.chain y w x high low)

  put-ties : (w x : X) (ys : List X) → filter (ties is_earlier w) (put_by_name name x ys) ≡ filter (ties is_earlier w) (x ∷ ys)
  put-ties w x [] = refl
  put-ties w x (y ∷ ys) = go (is_upto_by_units (name x) (name y)) refl (put-ties w x ys)
    where
      go : (t : Bool) → is_upto_by_units (name x) (name y) ≡ t → filter (ties is_earlier w) (put_by_name name x ys) ≡ filter (ties is_earlier w) (x ∷ ys) → filter (ties is_earlier w) (cond t (x ∷ (y ∷ ys)) (y ∷ put_by_name name x ys)) ≡ filter (ties is_earlier w) (x ∷ (y ∷ ys))
      go true e rest = refl
      go false e rest =
          ap (λ us. cond (ties is_earlier w y) (y ∷ us) us) rest
          ∙ exchanged (ties is_earlier w x) (ties is_earlier w y) x y (filter (ties is_earlier w) ys) (tied_apart w x y (after x y e))

  -- what has one name stays in its order
  pub order-stable : (xs : List X) → IsStableBy is_earlier xs (in_name_order name xs)
  order-stable [] w = refl
  order-stable (x ∷ xs) w = put-ties w x (in_name_order name xs) ∙ ap (λ us. cond (ties is_earlier w x) (x ∷ us) us) (order-stable xs w)

  put-permutation : (x : X) (ys : List X) → IsPermutation (x ∷ ys) (put_by_name name x ys)
  put-permutation x [] = IsPermutation-refl (x ∷ [])
  put-permutation x (y ∷ ys) =
      let moved : IsPermutation (x ∷ (y ∷ ys)) (y ∷ (x ∷ ys)) = IsPermutation-sym _ _ (IsPermutation-middle (y ∷ []) x ys) in
      let later : IsPermutation (x ∷ (y ∷ ys)) (y ∷ put_by_name name x ys) = IsPermutation-trans _ _ _ moved (IsPermutation-cons y _ _ (put-permutation x ys)) in
      elim (is_upto_by_units (name x) (name y)) as (λ t. IsPermutation (x ∷ (y ∷ ys)) (cond t (x ∷ (y ∷ ys)) (y ∷ put_by_name name x ys))) [ true ↦ IsPermutation-refl (x ∷ (y ∷ ys)) | false ↦ later ]

  -- the same elements, each as often
  pub order-permutation : (xs : List X) → IsPermutation xs (in_name_order name xs)
  order-permutation [] = IsPermutation-refl []
  order-permutation (x ∷ xs) = IsPermutation-trans (x ∷ xs) (x ∷ in_name_order name xs) (put_by_name name x (in_name_order name xs)) (IsPermutation-cons x xs (in_name_order name xs) (order-permutation xs)) (put-permutation x (in_name_order name xs))

  -- what a stable sort leaves
  pub order-only : (xs ys : List X) → IsSortedBy is_earlier ys → IsStableBy is_earlier xs ys → ys ≡ in_name_order name xs
  order-only xs ys up stable =
      in_order-unique is_earlier names-ordered ys (in_name_order name xs) (in_order-sorted is_earlier names-ordered ys up) (order-ordered xs) (λ w. stable w ∙ sym (order-stable xs w))

-- ---- images

put-map : {X Y : Type 0} (f : X → Y) (name : Y → List ℕ) (x : X) (ys : List X) → put_by_name name (f x) (map f ys) ≡ map f (put_by_name (λ y. name (f y)) x ys)
put-map f name x [] = refl
put-map f name x (y ∷ ys) = elim (is_upto_by_units (name (f x)) (name (f y))) as (λ t. cond t (f x ∷ (f y ∷ map f ys)) (f y ∷ put_by_name name (f x) (map f ys)) ≡ map f (cond t (x ∷ (y ∷ ys)) (y ∷ put_by_name (λ y. name (f y)) x ys))) [ true ↦ refl | false ↦ ap (λ zs. f y ∷ zs) (put-map f name x ys) ]

-- the order of images by name is that of what they are images of
pub order-map : {X Y : Type 0} (f : X → Y) (name : Y → List ℕ) (xs : List X) → in_name_order name (map f xs) ≡ map f (in_name_order (λ x. name (f x)) xs)
order-map f name [] = refl
order-map f name (x ∷ xs) = ap (put_by_name name (f x)) (order-map f name xs) ∙ put-map f name x (in_name_order (λ y. name (f y)) xs)

-- ---- members by their indexes

range-next : (a n : ℕ) → range_with_len (suc a) n ≡ map suc (range_with_len a n)
range-next a zero = refl
range-next a (suc n) =
    let e : suc a + 1 ≡ suc (a + 1) = omega arith in
    ap (λ ks. suc a ∷ ks) (ap (λ k. range_with_len k n) e ∙ range-next (a + 1) n)

-- one number more
pub range-more : (n : ℕ) → range_with_len 0 (n + 1) ≡ range_with_len 0 n ++ n ∷ []
range-more n = sym (map-id (range_with_len 0 (n + 1))) ∙ map-range_with_len_more (λ k. k) 0 n n (omega arith) ∙ ap (λ ks. ks ++ n ∷ []) (map-id (range_with_len 0 n))

-- at the indexes of a list, one after another, stand its elements
pub each_index : {X : Type 0} (xs : List X) → map (slice_get xs) (range_with_len 0 (length xs)) ≡ map Some xs
each_index [] = refl
each_index (x ∷ xs) =
    ap (λ os. Some x ∷ os) (ap (map (slice_get (x ∷ xs))) (range-next 0 (length xs)) ∙ map-map (slice_get (x ∷ xs)) suc (range_with_len 0 (length xs)) ∙ each_index xs)

-- and each of them is below its length
pub range-below : (n : ℕ) → All (λ k. k < n) (range_with_len 0 n)
range-below n k d within =
    let long : k < n = omega (arith, length-range_with_len 0 n) in
    let is : get_or (range_with_len 0 n) k d ≡ 0 + k = get_or-range_with_len 0 n k d long in
    omega arith

-- so are those in any other order
pub indexes-below : (n : ℕ) (ks order : List ℕ) → ks ≡ range_with_len 0 n → IsPermutation ks order → All (λ k. k < n) order
indexes-below n ks order is moved = All-permutation (λ k. k < n) ks order moved (subst (All (λ k. k < n)) (sym is) (range-below n))

-- at the indexes in the order of their names stand the members in that order
pub members-ordered : (ms : List (Member Tree)) (ks order : List ℕ) → ks ≡ range_with_len 0 (length ms) → order ≡ in_name_order (λ k. name_at ms k) ks → map (slice_get ms) order ≡ map Some (in_name_order (λ (m : Member Tree). m.key) ms)
members-ordered ms ks order is sorted =
    ap (map (slice_get ms)) sorted ∙ sym (order-map (slice_get ms) name_in ks) ∙ ap (λ ns. in_name_order name_in (map (slice_get ms) ns)) is ∙ ap (in_name_order name_in) (each_index ms) ∙ order-map Some name_in ms
