-- Where the step to the next sequence is made.
use Rattle.std.proofs.Common.{◌≡◌, ℕ, zero, suc, ◌+◌, ◌-◌, ◌<◌, ◌≤◌, List, [], ◌∷◌, ◌++◌, length, get_or, take, drop, drop-cons, set, append_assoc, append-nil, length-append, refl, sym, ap, ◌∙◌, subst, arith}
use borrow.Rule.Slice.PartMut.{put_mid}
use Rattle.std.specs.Prelude.{slice_index, reverse}
use Rattle.std.specs.List.{AllByRecursion, swap}
use Rattle.std.proofs.lemmas.List.{length-drop, length-take-le, take_all, drop_all, take-append-drop, drop-drop, get_or-drop, get_or_default}
use Rattle.rdfc_ndegree.specs.Internal.Sequences.{Falls, IsStep}

drop-more : (xs : List ℕ) (k j : ℕ) → k + 1 ≡ j → k < length xs → drop k xs ≡ slice_index xs k ∷ drop j xs
drop-more xs k j next in' = let e : j ≡ suc k = omega (arith, next) in drop-cons xs k 0 in' ∙ ap (λ n. slice_index xs k ∷ drop n xs) (sym e)

short-falls : (xs : List ℕ) → length xs ≤ 1 → Falls xs
short-falls [] short = tt
short-falls (x ∷ []) short = (tt, tt)
short-falls (x ∷ y ∷ xs) short = absurd (omega arith)

-- at the start one number is left at most
pub falls-last : (xs : List ℕ) → Falls (drop (length xs - 1) xs)
falls-last xs = let len = length-drop (length xs - 1) xs in short-falls (drop (length xs - 1) xs) (omega (arith, len))

all-lower : (x y : ℕ) (ys : List ℕ) → y ≤ x → AllByRecursion (λ z. z ≤ y) ys → AllByRecursion (λ z. z ≤ x) ys
all-lower x y [] low all = tt
all-lower x y (z ∷ zs) low all = (omega (arith, low, all.0), all-lower x y zs low all.1)

falls-cons : (x : ℕ) (xs : List ℕ) (y : ℕ) (ys : List ℕ) → xs ≡ y ∷ ys → y ≤ x → Falls xs → Falls (x ∷ xs)
falls-cons x xs y ys is low down =
    let down' : Falls (y ∷ ys) = subst Falls is down in
    (subst (AllByRecursion (λ z. z ≤ x)) (sym is) (low, all-lower x y ys low down'.0), down)

-- a falling end with one more in front, which is not less, falls
pub falls-more : (xs : List ℕ) (end : ℕ) → 1 < end → end ≤ length xs → slice_index xs (end - 1) ≤ slice_index xs (end - 2) → Falls (drop (end - 1) xs) → Falls (drop (end - 1 - 1) xs)
falls-more xs end two in' low down =
    let back : end - 1 - 1 ≡ end - 2 = omega arith in
    let first = drop-more xs (end - 2) (end - 1) (omega arith) (omega arith) in
    let second = drop-more xs (end - 1) end (omega arith) (omega arith) in
    subst (λ k. Falls (drop k xs)) (sym back) (subst Falls (sym first) (falls-cons (slice_index xs (end - 2)) (drop (end - 1) xs) (slice_index xs (end - 1)) (drop end xs) second low down))

-- the end behind the place before last falls
pub falls-pivot : (xs : List ℕ) (end : ℕ) → 1 < end → Falls (drop (end - 1) xs) → Falls (drop (end - 2 + 1) xs)
falls-pivot xs end two down = let e : end - 1 ≡ end - 2 + 1 = omega arith in subst (λ k. Falls (drop k xs)) e down

-- an end that is the whole list falls as the list does
pub falls-all : (xs : List ℕ) (end : ℕ) → end ≤ 1 → Falls (drop (end - 1) xs) → Falls xs
falls-all xs end small down = let e : end - 1 ≡ 0 = omega arith in subst (λ k. Falls (drop k xs)) e down

-- whatever is said holds of each element past the end
pub none-after : (P : ℕ → Type 0) (xs : List ℕ) (k : ℕ) → length xs ≤ k → AllByRecursion P (drop k xs)
none-after P xs k past = subst (AllByRecursion P) (sym (drop_all k xs past)) tt

-- a fact of all behind a place holds from the place on, where it holds there
pub all-back : (xs : List ℕ) (pivot above : ℕ) → 0 < above → above < length xs → slice_index xs above ≤ slice_index xs pivot → AllByRecursion (λ y. y ≤ slice_index xs pivot) (drop (above + 1) xs) → AllByRecursion (λ y. y ≤ slice_index xs pivot) (drop (above - 1 + 1) xs)
all-back xs pivot above some in' low all =
    let e : above - 1 + 1 ≡ above = omega arith in
    let first = drop-more xs above (above + 1) refl in' in
    subst (λ k. AllByRecursion (λ y. y ≤ slice_index xs pivot) (drop k xs)) (sym e) (subst (AllByRecursion (λ y. y ≤ slice_index xs pivot)) (sym first) (low, all))

-- ---- the step

split-at : (xs : List ℕ) (k : ℕ) → k < length xs → xs ≡ take k xs ++ slice_index xs k ∷ drop (k + 1) xs
split-at xs k in' = sym (take-append-drop k xs) ∙ ap (λ t. take k xs ++ t) (drop-more xs k (k + 1) refl in')

get-at : (bs : List ℕ) (x : ℕ) (rest : List ℕ) (k d : ℕ) → k ≡ length bs → get_or (bs ++ x ∷ rest) k d ≡ x
get-at [] x rest zero d at = refl
get-at [] x rest (suc k) d at = absurd (omega (arith, at))
get-at (b ∷ bs) x rest zero d at = absurd (omega (arith, at))
get-at (b ∷ bs) x rest (suc k) d at = get-at bs x rest k d (omega (arith, at))

set-at : (bs : List ℕ) (x y : ℕ) (rest : List ℕ) (k : ℕ) → k ≡ length bs → set (bs ++ x ∷ rest) k y ≡ bs ++ y ∷ rest
set-at [] x y rest zero at = refl
set-at [] x y rest (suc k) at = absurd (omega (arith, at))
set-at (b ∷ bs) x y rest zero at = absurd (omega (arith, at))
set-at (b ∷ bs) x y rest (suc k) at = ap (λ t. b ∷ t) (set-at bs x y rest k (omega (arith, at)))

take-at : (bs : List ℕ) (y : ℕ) (rest : List ℕ) (k : ℕ) → k ≡ length bs + 1 → take k (bs ++ y ∷ rest) ≡ bs ++ y ∷ []
take-at bs y rest zero at = absurd (omega (arith, at))
take-at [] y rest (suc zero) at = refl
take-at [] y rest (suc (suc k)) at = absurd (omega (arith, at))
take-at (b ∷ bs) y rest (suc k) at = ap (λ t. b ∷ t) (take-at bs y rest k (omega (arith, at)))

drop-at : (bs : List ℕ) (y : ℕ) (rest : List ℕ) (k : ℕ) → k ≡ length bs + 1 → drop k (bs ++ y ∷ rest) ≡ rest
drop-at bs y rest zero at = absurd (omega (arith, at))
drop-at [] y rest (suc zero) at = refl
drop-at [] y rest (suc (suc k)) at = absurd (omega (arith, at))
drop-at (b ∷ bs) y rest (suc k) at = drop-at bs y rest k (omega (arith, at))

swap-set : (xs : List ℕ) (i j : ℕ) → i < length xs → j < length xs → swap xs i j ≡ set (set xs i (slice_index xs j)) j (slice_index xs i)
swap-set [] i j low high = refl
swap-set (x ∷ xs) i j low high = let a = get_or_default (x ∷ xs) i x 0 low in let b = get_or_default (x ∷ xs) j x 0 high in λ k. set (set (x ∷ xs) i (b k)) j (a k)

module _ (bs : List ℕ) (x : ℕ) (us : List ℕ) (y : ℕ) (vs : List ℕ) (p a : ℕ) (at : p ≡ length bs) (far : a ≡ length (bs ++ y ∷ us)) where
  abbrev whole : List ℕ
  whole = bs ++ x ∷ (us ++ y ∷ vs)

  far-same : length (bs ++ x ∷ us) ≡ length (bs ++ y ∷ us)
  far-same = length-append bs (x ∷ us) ∙ sym (length-append bs (y ∷ us))

  swapped : swap whole p a ≡ bs ++ y ∷ (us ++ x ∷ vs)
  swapped =
      let other : whole ≡ (bs ++ x ∷ us) ++ y ∷ vs = sym (append_assoc bs (x ∷ us) (y ∷ vs)) in
      let len : length whole ≡ length (bs ++ x ∷ us) + length (y ∷ vs) = ap length other ∙ length-append (bs ++ x ∷ us) (y ∷ vs) in
      let len' = length-append bs (x ∷ us) in
      let same = far-same in
      let first : slice_index whole p ≡ x = get-at bs x (us ++ y ∷ vs) p 0 at in
      let second : slice_index whole a ≡ y = ap (λ l. slice_index l a) other ∙ get-at (bs ++ x ∷ us) y vs a 0 (far ∙ sym far-same) in
      swap-set whole p a (omega (arith, len, len', at)) (omega (arith, len, len', far, same))
      ∙ (λ k. set (set whole p (second k)) a (first k))
      ∙ ap (λ l. set l a x) (set-at bs x y (us ++ y ∷ vs) p at ∙ sym (append_assoc bs (y ∷ us) (y ∷ vs)))
      ∙ set-at (bs ++ y ∷ us) y x vs a far
      ∙ append_assoc bs (y ∷ us) (x ∷ vs)

  turned : (w r : List ℕ) → w ≡ bs ++ y ∷ (us ++ x ∷ vs) → r ≡ reverse (take (length w - (p + 1)) (drop (p + 1) w)) → put_mid (p + 1) (length w - (p + 1)) w r ≡ bs ++ y ∷ reverse (us ++ x ∷ vs)
  turned w r is made =
      let rest = us ++ x ∷ vs in
      let tail : drop (p + 1) w ≡ rest = ap (drop (p + 1)) is ∙ drop-at bs y rest (p + 1) (omega (arith, at)) in
      let front : take (p + 1) w ≡ bs ++ y ∷ [] = ap (take (p + 1)) is ∙ take-at bs y rest (p + 1) (omega (arith, at)) in
      let len : length w ≡ length bs + length (y ∷ rest) = ap length is ∙ length-append bs (y ∷ rest) in
      let fits : length rest ≤ length w - (p + 1) = omega (arith, len, at) in
      let all : take (length w - (p + 1)) (drop (p + 1) w) ≡ rest = ap (take (length w - (p + 1))) tail ∙ take_all (length w - (p + 1)) rest fits in
      let none : drop (length w - (p + 1)) (drop (p + 1) w) ≡ [] = ap (drop (length w - (p + 1))) tail ∙ drop_all (length w - (p + 1)) rest fits in
      (λ k. front k ++ ((made ∙ ap reverse all) k ++ none k)) ∙ ap (λ t. (bs ++ y ∷ []) ++ t) (append-nil (reverse rest)) ∙ append_assoc bs (y ∷ []) (reverse rest)

-- the pivot exchanged with the last above it, and the end turned round, is the next sequence
pub stepped : (xs w r : List ℕ) (p a : ℕ) → p + 1 < length xs → Falls (drop (p + 1) xs) → p < a → a < length xs → slice_index xs p < slice_index xs a → AllByRecursion (λ y. y ≤ slice_index xs p) (drop (a + 1) xs)
    → w ≡ swap xs p a → r ≡ reverse (take (length w - (p + 1)) (drop (p + 1) w)) → IsStep xs (put_mid (p + 1) (length w - (p + 1)) w r)
stepped xs w r p a room down after in' over under moved made =
    let bs = take p xs in
    let us = take (a - (p + 1)) (drop (p + 1) xs) in
    let x = slice_index xs p in
    let y = slice_index xs a in
    let vs = drop (a + 1) xs in
    let len = length-drop (p + 1) xs in
    let inside : a - (p + 1) < length (drop (p + 1) xs) = omega (arith, len) in
    let to : p + 1 + (a - (p + 1)) ≡ a = omega arith in
    let behind : p + 1 + (a - (p + 1) + 1) ≡ a + 1 = omega arith in
    let number : slice_index (drop (p + 1) xs) (a - (p + 1)) ≡ slice_index xs a = get_or-drop (p + 1) xs (a - (p + 1)) 0 ∙ ap (slice_index xs) to in
    let last : drop (a - (p + 1) + 1) (drop (p + 1) xs) ≡ drop (a + 1) xs = drop-drop (a - (p + 1) + 1) (p + 1) xs ∙ ap (λ k. drop k xs) behind in
    let rest : drop (p + 1) xs ≡ us ++ y ∷ vs = split-at (drop (p + 1) xs) (a - (p + 1)) inside ∙ (λ i. take (a - (p + 1)) (drop (p + 1) xs) ++ number i ∷ last i) in
    let parts : xs ≡ bs ++ x ∷ (us ++ y ∷ vs) = split-at xs p (omega arith) ∙ ap (λ t. take p xs ++ slice_index xs p ∷ t) rest in
    let front : length bs ≡ p = length-take-le p xs (omega arith) in
    let mid : length us ≡ a - (p + 1) = length-take-le (a - (p + 1)) (drop (p + 1) xs) (omega (arith, len)) in
    let sum = length-append bs (y ∷ us) in
    let far : a ≡ length (bs ++ y ∷ us) = omega (arith, front, mid, sum) in
    record {
      before = bs;
      pivot = x;
      higher = us;
      above = y;
      lower = vs;
      old_is = parts;
      new_is = turned bs x us y vs p a (sym front) far w r (moved ∙ ap (λ l. swap l p a) parts ∙ swapped bs x us y vs p a (sym front) far) made;
      falls = subst Falls rest down;
      over = over;
      under = under;
    }

pub ruleset pivots = (falls-last, falls-more, falls-pivot, falls-all)

pub ruleset lasts = (none-after, all-back)
