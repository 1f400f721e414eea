-- Texts that begin with a text, how many pass a test, and lists that are paired with one list in two orders.
use Rattle.std.proofs.Common.{◌≡◌, ℕ, zero, suc, ◌+◌, ◌<◌, ◌≤◌, List, [], ◌∷◌, ◌++◌, refl, sym, ap, ◌∙◌, subst, ⊎_elim, arith, Bool, true, false, cond, true≢false, zero-lt-suc, suc-le-suc}
use Rattle.std.specs.Prelude.{◌==◌, ◌&&◌, Contains, bytes_eq, count_by}
use Rattle.std.specs.List.{AllZip, list_any, starts_with}
use Rattle.std.specs.List.Sorted.{IsPermutation}
use Rattle.std.proofs.lemmas.Bool.{or_from, or_parts, false_from_ne_true}
use Rattle.std.proofs.lemmas.Bool.Decides.{nat_tests}
use Rattle.std.proofs.lemmas.List.Sums.{sum_by-cons}
use Rattle.std.proofs.lemmas.List.Sorted.{IsPermutation-refl, IsPermutation-sym, IsPermutation-trans, IsPermutation-cons, IsPermutation-middle, Contains-permutation}
use Rattle.base_types.specs.Order.{is_upto}
use Rattle.base_types.specs.Sets.{SameElements, AllDiffer}
use Rattle.base_types.proofs.Lists.{Contains-here, Contains-there, Contains-cons_cases, Contains-nil}
use Rattle.base_types.proofs.Orders.{bytes_eq-true}

-- ---- tests

-- tests that fail together are one
pub same_tests : (a b : Bool) → (a ≡ false → b ≡ false) → (b ≡ false → a ≡ false) → a ≡ b
same_tests true true f g = refl
same_tests true false f g = g refl
same_tests false true f g = sym (f refl)
same_tests false false f g = refl

-- ---- texts that begin with a text

abbrev pub begins : List ℕ → List ℕ → Bool
begins [] ys = true
begins (x ∷ xs) [] = false
begins (x ∷ xs) (y ∷ ys) = (x == y) && begins xs ys

-- to begin a path is what std calls to start with
pub begins-starts_with : (before least : List ℕ) → starts_with ◌==◌ least before ≡ begins before least
begins-starts_with [] least = refl
begins-starts_with (x ∷ xs) [] = refl
begins-starts_with (x ∷ xs) (y ∷ ys) = ap (λ b. (x == y) && b) (begins-starts_with xs ys)

-- a path begins itself
pub begins-refl : (xs : List ℕ) → begins xs xs ≡ true
begins-refl [] = refl
begins-refl (x ∷ xs) = grind (arith, nat_tests, begins-refl xs)

-- what begins with a longer path begins with its front
pub begins-append : (xs es ys : List ℕ) → begins (xs ++ es) ys ≡ true → begins xs ys ≡ true
begins-append [] es ys e = refl
begins-append (x ∷ xs) es [] e = e
begins-append (x ∷ xs) es (y ∷ ys) e = grind (arith, nat_tests, begins-append xs es ys)

-- a front of a front is a front
pub begins-transitive : (xs ys zs : List ℕ) → begins xs ys ≡ true → begins ys zs ≡ true → begins xs zs ≡ true
begins-transitive [] ys zs e f = refl
begins-transitive (x ∷ xs) [] zs e f = absurd (true≢false (sym e))
begins-transitive (x ∷ xs) (y ∷ ys) [] e f = absurd (true≢false (sym f))
begins-transitive (x ∷ xs) (y ∷ ys) (z ∷ zs) e f = grind (arith, nat_tests, begins-transitive xs ys zs)

-- a text that does not begin another is before or after it with all that begins with it
pub one_side : (xs least ys zs : List ℕ) → begins xs least ≡ false → begins xs ys ≡ true → begins xs zs ≡ true → is_upto least ys ≡ true → is_upto least zs ≡ true
one_side [] least ys zs n h k u = absurd (true≢false n)
one_side (x ∷ xs) [] ys zs n h k u = refl
one_side (x ∷ xs) (l ∷ ls) [] zs n h k u = absurd (true≢false (sym h))
one_side (x ∷ xs) (l ∷ ls) (y ∷ ys) [] n h k u = absurd (true≢false (sym k))
one_side (x ∷ xs) (l ∷ ls) (y ∷ ys) (z ∷ zs) n h k u = grind (arith, nat_tests, one_side xs ls ys zs)

-- a path that goes on from what is no front of the least one is not the least
pub begins-other : (xs least ys : List ℕ) → begins xs least ≡ false → begins xs ys ≡ true → bytes_eq ys least ≡ false
begins-other xs least ys n h = false_from_ne_true (bytes_eq ys least) (λ e. true≢false (sym h ∙ ap (begins xs) (bytes_eq-true ys least e) ∙ n))

-- what goes on from no front of the least path is no front of it
pub begins-later : (xs least ys : List ℕ) → begins xs least ≡ false → begins xs ys ≡ true → begins ys least ≡ false
begins-later xs least ys n h = false_from_ne_true (begins ys least) (λ e. true≢false (sym (begins-transitive xs ys least h e) ∙ n))

-- ---- how many pass a test

-- where none passes this one does not
pub list_any-false : {X : Type 0} (p : X → Bool) (xs : List X) (x : X) → list_any p xs ≡ false → Contains xs x → p x ≡ false
list_any-false p [] x e c = absurd (Contains-nil x c)
list_any-false p (y ∷ ys) x e c =
    ⊎_elim (λ same. subst (λ z. p z ≡ false) same (or_parts (p y) (list_any p ys) e).0) (λ d. list_any-false p ys x (or_parts (p y) (list_any p ys) e).1 d) (Contains-cons_cases y ys x c)

-- none passes where each fails
pub list_any-none : {X : Type 0} (p : X → Bool) (xs : List X) → ((x : X) → Contains xs x → p x ≡ false) → list_any p xs ≡ false
list_any-none p [] h = refl
list_any-none p (x ∷ xs) h = or_from (p x) (list_any p xs) (h x (Contains-here x xs)) (list_any-none p xs (λ y c. h y (Contains-there x xs y c)))

abbrev pub once : Bool → ℕ
once b = cond b 1 0

-- a count is that of the head and of the rest
pub count_by-cons : {X : Type 0} (p : X → Bool) (x : X) (xs : List X) → count_by p (x ∷ xs) ≡ once (p x) + count_by p xs
count_by-cons p x xs = sum_by-cons (λ y. once (p y)) x xs

-- where one passes the count is not 0
pub count_by-some : {X : Type 0} (p : X → Bool) (xs : List X) (x : X) → Contains xs x → p x ≡ true → 0 < count_by p xs
count_by-some p [] x c e = absurd (Contains-nil x c)
count_by-some p (y ∷ ys) x c e =
    let whole : count_by p (y ∷ ys) ≡ once (p y) + count_by p ys = count_by-cons p y ys in
    ⊎_elim
    (λ same. let one : once (p y) ≡ 1 = ap once (ap p same ∙ e) in omega arith)
    (λ d. let rest : 0 < count_by p ys = count_by-some p ys x d e in omega arith)
    (Contains-cons_cases y ys x c)

-- where at most one passes no two do
pub count_by-two : {X : Type 0} (p : X → Bool) (x y : X) (xs : List X) → count_by p (x ∷ xs) ≤ 1 → p x ≡ true → Contains xs y → p y ≡ true → ⊥
count_by-two p x y xs few e c f =
    let whole : count_by p (x ∷ xs) ≡ once (p x) + count_by p xs = count_by-cons p x xs in
    let one : once (p x) ≡ 1 = ap once e in
    let more : 0 < count_by p xs = count_by-some p xs y c f in
    omega arith

-- where at most one passes, two that pass are one
pub count_by-one : {X : Type 0} (p : X → Bool) (xs : List X) (x y : X) → count_by p xs ≤ 1 → Contains xs x → Contains xs y → p x ≡ true → p y ≡ true → x ≡ y
count_by-one p [] x y few c d e f = absurd (Contains-nil x c)
count_by-one p (z ∷ zs) x y few c d e f =
    let whole : count_by p (z ∷ zs) ≡ once (p z) + count_by p zs = count_by-cons p z zs in
    let fewer : count_by p zs ≤ 1 = omega arith in
    ⊎_elim
    (λ s. ⊎_elim (λ t. sym s ∙ t) (λ n. absurd (count_by-two p z y zs few (ap p s ∙ e) n f)) (Contains-cons_cases z zs y d))
    (λ m. ⊎_elim (λ t. absurd (count_by-two p z x zs few (ap p t ∙ f) m e)) (λ n. count_by-one p zs x y fewer m n e f) (Contains-cons_cases z zs y d))
    (Contains-cons_cases z zs x c)

-- where none passes the count is 0
pub count_by-none : {X : Type 0} (p : X → Bool) (xs : List X) → list_any p xs ≡ false → count_by p xs ≡ 0
count_by-none p [] e = refl
count_by-none p (x ∷ xs) e =
    let whole : count_by p (x ∷ xs) ≡ once (p x) + count_by p xs = count_by-cons p x xs in
    let here : once (p x) ≡ 0 = ap once (or_parts (p x) (list_any p xs) e).0 in
    let rest : count_by p xs ≡ 0 = count_by-none p xs (or_parts (p x) (list_any p xs) e).1 in
    omega arith

-- ---- two lists, place by place

-- two pairings with one list are a pairing of the others
pub AllZip-join : {W X Y : Type 0} (R : W → X → Type 0) (S : W → Y → Type 0) (T : X → Y → Type 0) (h : (w : W) (x : X) (y : Y) → R w x → S w y → T x y) (ws : List W) (xs : List X) (ys : List Y) → AllZip R ws xs → AllZip S ws ys → AllZip T xs ys
AllZip-join R S T h [] [] [] a b = tt
AllZip-join R S T h [] [] (y ∷ ys) a b = absurd b
AllZip-join R S T h [] (x ∷ xs) ys a b = absurd a
AllZip-join R S T h (w ∷ ws) [] ys a b = absurd a
AllZip-join R S T h (w ∷ ws) (x ∷ xs) [] a b = absurd b
AllZip-join R S T h (w ∷ ws) (x ∷ xs) (y ∷ ys) a b = (h w x y a.0 b.0, AllZip-join R S T h ws xs ys a.1 b.1)

-- lists whose elements pass alike pairwise have one count
pub AllZip-count_by : {X Y : Type 0} (p : X → Bool) (q : Y → Bool) (xs : List X) (ys : List Y) → AllZip (λ x y. p x ≡ q y) xs ys → count_by p xs ≡ count_by q ys
AllZip-count_by p q [] [] z = refl
AllZip-count_by p q [] (y ∷ ys) z = absurd z
AllZip-count_by p q (x ∷ xs) [] z = absurd z
AllZip-count_by p q (x ∷ xs) (y ∷ ys) z =
    let one : once (p x) ≡ once (q y) = ap once z.0 in
    let rest : count_by p xs ≡ count_by q ys = AllZip-count_by p q xs ys z.1 in
    let left : count_by p (x ∷ xs) ≡ once (p x) + count_by p xs = count_by-cons p x xs in
    let right : count_by q (y ∷ ys) ≡ once (q y) + count_by q ys = count_by-cons q y ys in
    omega arith

-- ---- a list that is paired with one list in two orders

abbrev pub Differ : {X : Type 0} → List X → Type 0
Differ [] = Unit {0}
Differ (x ∷ xs) = (Contains xs x → ⊥) × Differ xs

-- a list without repeats differs from each element to the later ones
pub Differ-from_AllDiffer : {X : Type 0} (xs : List X) → AllDiffer xs → Differ xs
Differ-from_AllDiffer [] a = tt
Differ-from_AllDiffer (x ∷ xs) a =
    (λ m. a zero (suc m.0) x (zero-lt-suc m.0) (suc-le-suc m.1) (sym m.2), Differ-from_AllDiffer xs (λ i j d l m. a (suc i) (suc j) d (suc-le-suc l) (suc-le-suc m)))

-- x taken out of xs, and its partner out of ys
record Picked {X Y : Type 0} (R : X → Y → Type 0) (xs : List X) (ys : List Y) (x : X) : Type 0 where
  left : List X
  others : List Y
  partner : Y
  related : R x partner
  zipped : AllZip R left others
  moved_left : IsPermutation xs (x ∷ left)
  moved : IsPermutation ys (partner ∷ others)
  apart : Differ xs → (Contains left x → ⊥) × Differ left

past : {X : Type 0} (w x : X) (xs left : List X) → IsPermutation xs (x ∷ left) → IsPermutation (w ∷ xs) (x ∷ (w ∷ left))
past w x xs left p = IsPermutation-trans (w ∷ xs) (w ∷ (x ∷ left)) (x ∷ (w ∷ left)) (IsPermutation-cons w xs (x ∷ left) p) (IsPermutation-middle (w ∷ []) x left)

pick_here : {X Y : Type 0} (R : X → Y → Type 0) (w : X) (xs : List X) (y : Y) (ys : List Y) (x : X) → R w y → AllZip R xs ys → w ≡ x → Picked R (w ∷ xs) (y ∷ ys) x
pick_here R w xs y ys x r z e = record {
  left = xs;
  others = ys;
  partner = y;
  related = subst (λ a. R a y) e r;
  zipped = z;
  moved_left = subst (λ a. IsPermutation (w ∷ xs) (a ∷ xs)) e (IsPermutation-refl (w ∷ xs));
  moved = IsPermutation-refl (y ∷ ys);
  apart = λ d. subst (λ a. (Contains xs a → ⊥) × Differ xs) e d;
}

pick_there : {X Y : Type 0} (R : X → Y → Type 0) (w : X) (xs : List X) (y : Y) (ys : List Y) (x : X) → R w y → Contains xs x → Picked R xs ys x → Picked R (w ∷ xs) (y ∷ ys) x
pick_there R w xs y ys x r c k = record {
  left = w ∷ k.left;
  others = y ∷ k.others;
  partner = k.partner;
  related = k.related;
  zipped = (r, k.zipped);
  moved_left = past w x xs k.left k.moved_left;
  moved = past y k.partner ys k.others k.moved;
  apart = λ d. let rest = k.apart d.1 in (
    (λ m. ⊎_elim (λ e. d.0 (subst (Contains xs) (sym e) c)) (λ n. rest.0 n) (Contains-cons_cases w k.left x m)),
    ((λ m. d.0 (Contains-permutation (x ∷ k.left) xs w (IsPermutation-sym xs (x ∷ k.left) k.moved_left) (Contains-there x k.left w m))), rest.1),
  );
}

pick : {X Y : Type 0} (R : X → Y → Type 0) (xs : List X) (ys : List Y) (x : X) → AllZip R xs ys → Contains xs x → Picked R xs ys x
pick R [] ys x z c = absurd (Contains-nil x c)
pick R (w ∷ xs) [] x z c = absurd z
pick R (w ∷ xs) (y ∷ ys) x z c = ⊎_elim (λ e. pick_here R w xs y ys x z.0 z.1 e) (λ d. pick_there R w xs y ys x z.0 d (pick R xs ys x z.1 d)) (Contains-cons_cases w xs x c)

-- ys in the order in which it is paired with xs
pub record Paired {X Y : Type 0} (R : X → Y → Type 0) (xs : List X) (ys : List Y) : Type 0 where
  pub reordered : List Y
  pub moved : IsPermutation ys reordered
  pub zipped : AllZip R xs reordered

left_same : {X Y : Type 0} (R : X → Y → Type 0) (x : X) (xs vs : List X) (ys : List Y) → Differ (x ∷ xs) → Differ vs → SameElements (x ∷ xs) vs → (k : Picked R vs ys x) → SameElements xs k.left
left_same R x xs vs ys d e s k y = (forth, back)
  where
    forth : Contains xs y → Contains k.left y
    forth c =
        ⊎_elim (λ f. absurd (d.0 (subst (Contains xs) (sym f) c))) (λ m. m)
        (Contains-cons_cases x k.left y (Contains-permutation vs (x ∷ k.left) y k.moved_left ((s y).0 (Contains-there x xs y c))))

    back : Contains k.left y → Contains xs y
    back c =
        ⊎_elim (λ f. absurd ((k.apart e).0 (subst (Contains k.left) (sym f) c))) (λ m. m)
        (Contains-cons_cases x xs y ((s y).1 (Contains-permutation (x ∷ k.left) vs y (IsPermutation-sym vs (x ∷ k.left) k.moved_left) (Contains-there x k.left y c))))

paired_more : {X Y : Type 0} (R : X → Y → Type 0) (x : X) (xs vs : List X) (ys : List Y) (k : Picked R vs ys x) → Paired R xs k.others → Paired R (x ∷ xs) ys
paired_more R x xs vs ys k p = record {
  reordered = k.partner ∷ p.reordered;
  moved = IsPermutation-trans ys (k.partner ∷ k.others) (k.partner ∷ p.reordered) k.moved (IsPermutation-cons k.partner k.others p.reordered p.moved);
  zipped = (k.related, p.zipped);
}

-- a pairing of one listing of a set is one of every other listing
pub paired : {X Y : Type 0} (R : X → Y → Type 0) (xs vs : List X) (ys : List Y) → Differ xs → Differ vs → SameElements xs vs → AllZip R vs ys → Paired R xs ys
paired R [] [] [] d e s z = record { reordered = []; moved = IsPermutation-refl []; zipped = tt }
paired R [] [] (y ∷ ys) d e s z = absurd z
paired R [] (v ∷ vs) ys d e s z = absurd (Contains-nil v ((s v).1 (Contains-here v vs)))
paired R (x ∷ xs) vs ys d e s z =
    let k : Picked R vs ys x = pick R vs ys x z ((s x).0 (Contains-here x xs)) in
    paired_more R x xs vs ys k (paired R xs k.left k.others d.1 (k.apart e).1 (left_same R x xs vs ys d e s k) k.zipped)
