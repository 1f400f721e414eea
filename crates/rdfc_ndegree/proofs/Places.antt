-- The places that issuers keep.
use Rattle.std.proofs.Common.{◌≡◌, ℕ, zero, suc, ◌+◌, ◌<◌, ◌≤◌, min, List, [], ◌∷◌, ◌++◌, length, get_or, take, replicate, set, refl, sym, ap, ◌∙◌, subst, ⊎_elim, arith, Option, Some, None, Bool, true, false, cond, nat_lt, if◌then◌else◌, ◌==◌, ◌||◌}
use Rattle.std.specs.Prelude.{◌≢◌, slice_get, is_some}
use Rattle.std.specs.List.{list_any}
use Rattle.std.proofs.lemmas.Bool.{cases_lt, ltb-true, ltb-false}
use Rattle.std.proofs.lemmas.Bool.Decides.{nat_tests}
use Rattle.std.proofs.lemmas.List.{take_all, take_more, take-take, length-take, length-take-le}
use Rattle.std.proofs.lemmas.List.Quantifiers.{all_pairs_push}
use Rattle.rdfc_ndegree.specs.NumberIssuers.{number_in, place_in, place_at, ArePlaces, HasPlaces}
use Rattle.rdfc_ndegree.specs.Internal.Issuing.{place_below}
use Rattle.rdfc_ndegree.proofs.Tables.{place-none, place-some}

-- ---- room

kept-none : (k n : ℕ) → place_at (slice_get (replicate k None) n) ≡ None
kept-none zero n = refl
kept-none (suc k) zero = refl
kept-none (suc k) (suc n) = kept-none k n

kept-longer : (places : List (Option ℕ)) (k n : ℕ) → place_at (slice_get (places ++ replicate k None) n) ≡ place_at (slice_get places n)
kept-longer [] k n = kept-none k n
kept-longer (p ∷ ps) k zero = refl
kept-longer (p ∷ ps) k (suc n) = kept-longer ps k n

-- what `resize` to more places leaves
pub kept-resized : (old new : List (Option ℕ)) (room k n : ℕ) → new ≡ take room old ++ replicate k None → length old ≤ room → place_at (slice_get new n) ≡ place_at (slice_get old n)
kept-resized old new room k n is fits =
    let whole : take room old ≡ old = take_all room old fits in
    ap (λ ps. place_at (slice_get ps n)) (is ∙ ap (λ ps. ps ++ replicate k None) whole) ∙ kept-longer old k n

-- the places of an issuer that has named nothing
pub HasPlaces-empty : (k : ℕ) → HasPlaces (replicate k None) []
HasPlaces-empty k = λ n. kept-none k n

-- an issuer that has named nothing, whose numbers differ
pub ArePlaces-empty : (k : ℕ) → ArePlaces (replicate k None) []
ArePlaces-empty k = record { differ = λ i j d below in'. omega arith; each = HasPlaces-empty k }

-- places that are kept under more entries are the places of the same order
pub HasPlaces-longer : (old new : List (Option ℕ)) (order : List ℕ) → HasPlaces old order → ((n : ℕ) → place_at (slice_get new n) ≡ place_at (slice_get old n)) → HasPlaces new order
HasPlaces-longer old new order h same = λ n. same n ∙ h n

-- the same of an order whose numbers differ
pub ArePlaces-longer : (old new : List (Option ℕ)) (order : List ℕ) → ArePlaces old order → ((n : ℕ) → place_at (slice_get new n) ≡ place_at (slice_get old n)) → ArePlaces new order
ArePlaces-longer old new order a same = record { differ = a.differ; each = HasPlaces-longer old new order a.each same }

-- ---- one more place

get-set_same : (ps : List (Option ℕ)) (i : ℕ) (p : Option ℕ) → i < length ps → slice_get (set ps i p) i ≡ Some p
get-set_same [] i p in' = absurd (omega arith)
get-set_same (q ∷ qs) zero p in' = refl
get-set_same (q ∷ qs) (suc i) p in' = get-set_same qs i p (omega arith)

get-set_other : (ps : List (Option ℕ)) (i n : ℕ) (p : Option ℕ) → (i == n) ≡ false → slice_get (set ps i p) n ≡ slice_get ps n
get-set_other [] i n p other = refl
get-set_other (q ∷ qs) zero zero p other = absurd (cc)
get-set_other (q ∷ qs) zero (suc n) p other = refl
get-set_other (q ∷ qs) (suc i) zero p other = refl
get-set_other (q ∷ qs) (suc i) (suc n) p other = let differ : (i == n) ≡ false = grind (arith, nat_tests) in get-set_other qs i n p differ

any-push : (xs : List ℕ) (m n : ℕ) → list_any (λ k. k == n) (xs ++ m ∷ []) ≡ (list_any (λ k. k == n) xs || (m == n))
any-push [] m n = grind (arith, nat_tests)
any-push (x ∷ xs) m n = let rest = any-push xs m n in grind (arith, nat_tests)

number-push_same : (xs : List ℕ) (n : ℕ) → list_any (λ m. m == n) xs ≡ false → number_in (xs ++ n ∷ []) n ≡ length xs
number-push_same [] n none = grind (arith, nat_tests)
number-push_same (x ∷ xs) n none =
    let other : (x == n) ≡ false = grind (arith, nat_tests) in
    let rest : number_in (xs ++ n ∷ []) n ≡ length xs = number-push_same xs n (grind (arith, nat_tests)) in
    let next : 1 + number_in (xs ++ n ∷ []) n ≡ suc (length xs) = omega (arith, rest) in
    rw other next

number-push_other : (xs : List ℕ) (m n : ℕ) → list_any (λ k. k == n) xs ≡ true → number_in (xs ++ m ∷ []) n ≡ number_in xs n
number-push_other [] m n some = absurd (cc)
number-push_other (x ∷ xs) m n some = go (x == n) refl (λ e. number-push_other xs m n e)
  where
    go : (b : Bool) → (x == n) ≡ b → (list_any (λ k. k == n) xs ≡ true → number_in (xs ++ m ∷ []) n ≡ number_in xs n) → cond b 0 (1 + number_in (xs ++ m ∷ []) n) ≡ cond b 0 (1 + number_in xs n)
    go true e rest = refl
    go false e rest = let later : list_any (λ k. k == n) xs ≡ true = grind (arith, nat_tests) in ap (λ j. 1 + j) (rest later)

-- a number that is put behind a list stands at its end
pub place-push_same : (xs : List ℕ) (n : ℕ) → list_any (λ m. m == n) xs ≡ false → place_in (xs ++ n ∷ []) n ≡ Some (length xs)
place-push_same xs n none =
    let named : list_any (λ m. m == n) (xs ++ n ∷ []) ≡ true = any-push xs n n ∙ grind (arith, nat_tests) in
    let at = number-push_same xs n none in
    rw (named, at) refl

-- one that stands in the list already keeps its place
place-push_named : (xs : List ℕ) (m n : ℕ) → list_any (λ k. k == n) xs ≡ true → place_in (xs ++ m ∷ []) n ≡ place_in xs n
place-push_named xs m n e =
    let named : list_any (λ k. k == n) (xs ++ m ∷ []) ≡ true = any-push xs m n ∙ rw e refl in
    let at = number-push_other xs m n e in
    rw (named, at, e) refl

place-push_other : (xs : List ℕ) (m n : ℕ) → (m == n) ≡ false → place_in (xs ++ m ∷ []) n ≡ place_in xs n
place-push_other xs m n other = go (list_any (λ k. k == n) xs) refl
  where
    go : (b : Bool) → list_any (λ k. k == n) xs ≡ b → place_in (xs ++ m ∷ []) n ≡ place_in xs n
    go true e = place-push_named xs m n e
    go false e =
        let none : list_any (λ k. k == n) (xs ++ m ∷ []) ≡ false = any-push xs m n ∙ rw (e, other) refl in
        rw (none, e) refl

absent-differs : (xs : List ℕ) (n k d : ℕ) → list_any (λ m. m == n) xs ≡ false → k < length xs → get_or xs k d ≢ n
absent-differs [] n k d none in' same = absurd (omega arith)
absent-differs (x ∷ xs) n zero d none in' same = let yes : (x == n) ≡ true = grind (arith, nat_tests) in grind (arith, nat_tests)
absent-differs (x ∷ xs) n (suc k) d none in' same = absent-differs xs n k d (grind (arith, nat_tests)) (omega arith) same

-- what is found for each number is its first place in the order
abbrev pub FindsPlaces : (ℕ → Option ℕ) → List ℕ → Type 0
FindsPlaces found order = (n : ℕ) → found n ≡ place_in order n

-- a number that has no place gets the next one
pub FindsPlaces-push : (old new : ℕ → Option ℕ) (order : List ℕ) (node place : ℕ) → FindsPlaces old order → list_any (λ m. m == node) order ≡ false → place ≡ length order → ((n : ℕ) → new n ≡ cond (node == n) (Some place) (old n)) → FindsPlaces new (order ++ node ∷ [])
FindsPlaces-push old new order node place h none behind more = λ n. more n ∙ go n (node == n) refl
  where
    go : (n : ℕ) (b : Bool) → (node == n) ≡ b → cond b (Some place) (old n) ≡ place_in (order ++ node ∷ []) n
    go n true e =
        let same : node ≡ n = grind (arith, nat_tests) in
        subst (λ k. Some place ≡ place_in (order ++ node ∷ []) k) same (ap Some behind ∙ sym (place-push_same order node none))
    go n false e = h n ∙ sym (place-push_other order node n e)

-- what is kept for each number after one entry is set
set-at : (places : List (Option ℕ)) (node n : ℕ) (place : Option ℕ) → node < length places → place_at (slice_get (set places node place) n) ≡ cond (node == n) place (place_at (slice_get places n))
set-at places node n place in' = go (node == n) refl
  where
    go : (b : Bool) → (node == n) ≡ b → place_at (slice_get (set places node place) n) ≡ cond b place (place_at (slice_get places n))
    go true e =
        let same : node ≡ n = grind (arith, nat_tests) in
        subst (λ k. place_at (slice_get (set places node place) k) ≡ place) same (ap place_at (get-set_same places node place in'))
    go false e = ap place_at (get-set_other places node n place e)

-- the same where an entry is kept for each number
pub HasPlaces-push : (places : List (Option ℕ)) (order : List ℕ) (node : ℕ) → HasPlaces places order → list_any (λ m. m == node) order ≡ false → node < length places → HasPlaces (set places node (Some (length order))) (order ++ node ∷ [])
HasPlaces-push places order node h none in' =
    FindsPlaces-push (λ n. place_at (slice_get places n)) (λ n. place_at (slice_get (set places node (Some (length order))) n)) order node (length order) h none refl
    (λ n. set-at places node n (Some (length order)) in')

-- one more number, which differs from those before
pub ArePlaces-push : (places : List (Option ℕ)) (order : List ℕ) (node : ℕ) → ArePlaces places order → list_any (λ m. m == node) order ≡ false → node < length places → ArePlaces (set places node (Some (length order))) (order ++ node ∷ [])
ArePlaces-push places order node a none in' = record {
  differ = all_pairs_push (λ x y. x ≢ y) order node a.differ (λ k d below. absent-differs order node k d none below);
  each = HasPlaces-push places order node a.each none in';
}

-- ---- the last place, taken back

-- one that has a place keeps it
place-again : (xs : List ℕ) (m n : ℕ) → list_any (λ k. k == m) xs ≡ true → place_in (xs ++ m ∷ []) n ≡ place_in xs n
place-again xs m n some = go (m == n) refl
  where
    go : (b : Bool) → (m == n) ≡ b → place_in (xs ++ m ∷ []) n ≡ place_in xs n
    go true e = let same : m ≡ n = grind (arith, nat_tests) in place-push_named xs m n (subst (λ k. list_any (λ j. j == k) xs ≡ true) same some)
    go false e = place-push_other xs m n e

-- a number that is named once more keeps its first place
pub FindsPlaces-again : (found : ℕ → Option ℕ) (order : List ℕ) (node : ℕ) → FindsPlaces found order → list_any (λ m. m == node) order ≡ true → FindsPlaces found (order ++ node ∷ [])
FindsPlaces-again found order node h some = λ n. h n ∙ sym (place-again order node n some)

number-inside : (xs : List ℕ) (n : ℕ) → list_any (λ m. m == n) xs ≡ true → number_in xs n < length xs
number-inside [] n some = absurd (cc)
number-inside (x ∷ xs) n some = go (x == n) refl (λ e. number-inside xs n e)
  where
    go : (b : Bool) → (x == n) ≡ b → (list_any (λ m. m == n) xs ≡ true → number_in xs n < length xs) → cond b 0 (1 + number_in xs n) < suc (length xs)
    go true e rest = omega arith
    go false e rest = let later : list_any (λ m. m == n) xs ≡ true = grind (arith, nat_tests) in let less = rest later in omega arith

-- what is named at the end of a list for the first time stands nowhere before
first-free : (xs : List ℕ) (n : ℕ) → place_in (xs ++ n ∷ []) n ≡ Some (length xs) → list_any (λ m. m == n) xs ≡ false
first-free xs n last = go (list_any (λ m. m == n) xs) refl
  where
    go : (b : Bool) → list_any (λ m. m == n) xs ≡ b → list_any (λ m. m == n) xs ≡ false
    go false e = e
    go true e =
        let at : place_in xs n ≡ Some (number_in xs n) = rw e refl in
        let same : Some (number_in xs n) ≡ Some (length xs) = sym at ∙ sym (place-push_named xs n n e) ∙ last in
        let equal : number_in xs n ≡ length xs = cc in
        let less = number-inside xs n e in
        absurd (omega arith)

-- its place goes with it
FindsPlaces-last : (old new : ℕ → Option ℕ) (xs : List ℕ) (node : ℕ) → FindsPlaces old (xs ++ node ∷ []) → place_in (xs ++ node ∷ []) node ≡ Some (length xs) → ((n : ℕ) → new n ≡ cond (node == n) None (old n)) → FindsPlaces new xs
FindsPlaces-last old new xs node h last less = λ n. less n ∙ go n (node == n) refl
  where
    go : (n : ℕ) (b : Bool) → (node == n) ≡ b → cond b None (old n) ≡ place_in xs n
    go n true e =
        let same : node ≡ n = grind (arith, nat_tests) in
        let free = first-free xs node last in
        let none : place_in xs node ≡ None = rw free refl in
        sym (subst (λ k. place_in xs k ≡ None) same none)
    go n false e = h n ∙ place-push_other xs node n e

-- one that stands before keeps its place
FindsPlaces-before : (found : ℕ → Option ℕ) (xs : List ℕ) (node : ℕ) → FindsPlaces found (xs ++ node ∷ []) → (place_in (xs ++ node ∷ []) node ≡ Some (length xs) → ⊥) → FindsPlaces found xs
FindsPlaces-before found xs node h other = go (list_any (λ m. m == node) xs) refl
  where
    go : (b : Bool) → list_any (λ m. m == node) xs ≡ b → FindsPlaces found xs
    go true e = λ n. h n ∙ place-again xs node n e
    go false e = absurd (other (place-push_same xs node e))

-- a list is all but its last, and its last
split-last : (xs : List ℕ) (k d : ℕ) → length xs ≡ suc k → xs ≡ take k xs ++ get_or xs k d ∷ []
split-last [] k d long = absurd (omega arith)
split-last (x ∷ []) zero d long = refl
split-last (x ∷ y ∷ ys) zero d long = absurd (omega arith)
split-last (x ∷ xs) (suc k) d long = ap (λ zs. x ∷ zs) (split-last xs k d (omega arith))

-- the same with what the program has at hand
pub FindsPlaces-taken_last : (old new : ℕ → Option ℕ) (order : List ℕ) (k node : ℕ) → FindsPlaces old order → length order ≡ suc k → node ≡ get_or order k node → place_in order node ≡ Some k → ((n : ℕ) → new n ≡ cond (node == n) None (old n)) → FindsPlaces new (take k order)
FindsPlaces-taken_last old new order k node h long is last less =
    let split : order ≡ take k order ++ node ∷ [] = split-last order k node long ∙ ap (λ n. take k order ++ n ∷ []) (sym is) in
    let len : length (take k order) ≡ k = length-take-le k order (omega arith) in
    FindsPlaces-last old new (take k order) node (subst (FindsPlaces old) split h) (ap (λ xs. place_in xs node) (sym split) ∙ last ∙ ap Some (sym len)) less

-- a number that was named before keeps its place when its last naming is taken back
pub FindsPlaces-taken_before : (found : ℕ → Option ℕ) (order : List ℕ) (k node : ℕ) → FindsPlaces found order → length order ≡ suc k → node ≡ get_or order k node → (place_in order node ≡ Some k → ⊥) → FindsPlaces found (take k order)
FindsPlaces-taken_before found order k node h long is other =
    let split : order ≡ take k order ++ node ∷ [] = split-last order k node long ∙ ap (λ n. take k order ++ n ∷ []) (sym is) in
    let len : length (take k order) ≡ k = length-take-le k order (omega arith) in
    FindsPlaces-before found (take k order) node (subst (FindsPlaces found) split h) (λ e. other (ap (λ xs. place_in xs node) split ∙ e ∙ ap Some len))

-- ---- the first so many numbers

any-within : (xs : List ℕ) (k n : ℕ) → list_any (λ m. m == n) xs ≡ true → number_in xs n < k → list_any (λ m. m == n) (take k xs) ≡ true
any-within xs zero n some below = absurd (omega arith)
any-within [] (suc k) n some below = absurd (cc)
any-within (x ∷ xs) (suc k) n some below = go (x == n) refl (λ e l. any-within xs k n e l)
  where
    go : (b : Bool) → (x == n) ≡ b → (list_any (λ m. m == n) xs ≡ true → number_in xs n < k → list_any (λ m. m == n) (take k xs) ≡ true) → (b || list_any (λ m. m == n) (take k xs)) ≡ true
    go true e rest = refl
    go false e rest =
        let next : number_in (x ∷ xs) n ≡ 1 + number_in xs n = rw e refl in
        let bound : 1 + number_in xs n < suc k = subst (λ j. j < suc k) next below in
        let later : list_any (λ m. m == n) xs ≡ true = grind (arith, nat_tests) in
        rest later (omega arith)

number-within : (xs : List ℕ) (k n : ℕ) → list_any (λ m. m == n) xs ≡ true → number_in xs n < k → number_in (take k xs) n ≡ number_in xs n
number-within xs zero n some below = absurd (omega arith)
number-within [] (suc k) n some below = absurd (cc)
number-within (x ∷ xs) (suc k) n some below = go (x == n) refl (λ e l. number-within xs k n e l)
  where
    go : (b : Bool) → (x == n) ≡ b → (list_any (λ m. m == n) xs ≡ true → number_in xs n < k → number_in (take k xs) n ≡ number_in xs n) → cond b 0 (1 + number_in (take k xs) n) ≡ cond b 0 (1 + number_in xs n)
    go true e rest = refl
    go false e rest =
        let next : number_in (x ∷ xs) n ≡ 1 + number_in xs n = rw e refl in
        let bound : 1 + number_in xs n < suc k = subst (λ j. j < suc k) next below in
        let later : list_any (λ m. m == n) xs ≡ true = grind (arith, nat_tests) in
        ap (λ j. 1 + j) (rest later (omega arith))

none-behind : (xs : List ℕ) (k n : ℕ) → list_any (λ m. m == n) xs ≡ true → k ≤ number_in xs n → list_any (λ m. m == n) (take k xs) ≡ false
none-behind xs zero n some above = refl
none-behind [] (suc k) n some above = absurd (cc)
none-behind (x ∷ xs) (suc k) n some above = go (x == n) refl (λ e l. none-behind xs k n e l)
  where
    go : (b : Bool) → (x == n) ≡ b → (list_any (λ m. m == n) xs ≡ true → k ≤ number_in xs n → list_any (λ m. m == n) (take k xs) ≡ false) → (b || list_any (λ m. m == n) (take k xs)) ≡ false
    go true e rest =
        let first : number_in (x ∷ xs) n ≡ 0 = rw e refl in
        let bound : suc k ≤ 0 = subst (λ j. suc k ≤ j) first above in
        absurd (omega arith)
    go false e rest =
        let next : number_in (x ∷ xs) n ≡ 1 + number_in xs n = rw e refl in
        let bound : suc k ≤ 1 + number_in xs n = subst (λ j. suc k ≤ j) next above in
        let later : list_any (λ m. m == n) xs ≡ true = grind (arith, nat_tests) in
        rest later (omega arith)

none-first : (xs : List ℕ) (k n : ℕ) → list_any (λ m. m == n) xs ≡ false → list_any (λ m. m == n) (take k xs) ≡ false
none-first xs zero n none = refl
none-first [] (suc k) n none = refl
none-first (x ∷ xs) (suc k) n none = grind (arith, nat_tests, none-first xs k n)

-- a number's place among the first k is its place, if that is below k
pub place-first : (xs : List ℕ) (k n : ℕ) → place_below (place_in xs n) k ≡ place_in (take k xs) n
place-first xs k n = go (list_any (λ m. m == n) xs) refl
  where
    named : list_any (λ m. m == n) xs ≡ true → (b : Bool) → nat_lt (number_in xs n) k ≡ b → (if b then Some (number_in xs n) else None) ≡ place_in (take k xs) n
    named e true l =
        let below = ltb-true (number_in xs n) k l in
        let some = any-within xs k n e below in
        let same = number-within xs k n e below in
        rw (some, same) refl
    named e false l =
        let above = ltb-false (number_in xs n) k l in
        let none = none-behind xs k n e above in
        rw none refl

    go : (b : Bool) → list_any (λ m. m == n) xs ≡ b → place_below (place_in xs n) k ≡ place_in (take k xs) n
    go true e =
        let at : place_in xs n ≡ Some (number_in xs n) = rw e refl in
        ap (λ place. place_below place k) at ∙ named e (nat_lt (number_in xs n) k) refl
    go false e =
        let none : place_in xs n ≡ None = rw e refl in
        let gone : place_in (take k xs) n ≡ None = rw (none-first xs k n e) refl in
        ap (λ place. place_below place k) none ∙ sym gone

-- one more number, where it stands behind the first so many
pub first-next : (xs seen : List ℕ) (k there number : ℕ) → xs ≡ seen → k < length xs → there ≡ get_or xs k there → there ≡ number → take (k + 1) seen ≡ take k seen ++ number ∷ []
first-next xs seen k there number same inside is equal =
    let at : get_or xs k there ≡ number = sym is ∙ equal in
    ap (take (k + 1)) (sym same) ∙ take_more xs k there inside ∙ (λ i. take k (same i) ++ at i ∷ [])

-- a number that is put behind the first so many
pub first-pushed : (kept first after seen : List ℕ) (count number len : ℕ) → take count kept ≡ seen → first ≡ take count kept → after ≡ first ++ number ∷ [] → len ≡ length after → take len after ≡ seen ++ number ∷ []
first-pushed kept first after seen count number len named cut more all =
    take_all len after (omega (arith, all)) ∙ more ∙ ap (λ ns. ns ++ number ∷ []) (cut ∙ named)

-- the first so many of the first so many
pub first-shorter : (kept seen : List ℕ) (count k least : ℕ) → take count kept ≡ seen → least ≡ min count k → take least kept ≡ take k seen
first-shorter kept seen count k least named is =
    ⊎_elim
    (λ l. let all : least ≡ count = omega (arith, is) in
    let short : length (take count kept) ≤ k = omega (arith, length-take count kept) in
    ap (λ j. take j kept) all ∙ sym (take_all k (take count kept) short) ∙ ap (take k) named)
    (λ l. let part : least ≡ k = omega (arith, is) in
    ap (λ j. take j kept) part ∙ sym (take-take k count kept l) ∙ ap (take k) named)
    (cases_lt count k)

-- the first so many are there after the others were taken off
pub first-kept : (kept first after : List ℕ) (count : ℕ) → count ≤ length kept → first ≡ take count kept → after ≡ first → count ≤ length after
first-kept kept first after count inside cut same =
    let long : length after ≡ count = ap length (same ∙ cut) ∙ length-take-le count kept inside in
    omega (arith, long)

pub ruleset first_numbers = (first-kept)

-- where no place is found the number is not named
pub not-named : (order seen : List ℕ) (n : ℕ) (place : Option ℕ) → order ≡ seen → place ≡ place_in seen n → is_some place ≡ false → list_any (λ m. m == n) order ≡ false
not-named order seen n None same is none = ap (list_any (λ m. m == n)) same ∙ place-none seen n (sym is)
not-named order seen n (Some k) same is none = absurd (cc)

-- where one is found it is
pub is-named : (order seen : List ℕ) (n : ℕ) (place : Option ℕ) → order ≡ seen → place ≡ place_in seen n → is_some place ≡ true → list_any (λ m. m == n) order ≡ true
is-named order seen n None same is some = absurd (cc)
is-named order seen n (Some k) same is some = ap (list_any (λ m. m == n)) same ∙ (place-some seen n k (sym is)).0

pub ruleset room = (kept-resized, HasPlaces-empty, HasPlaces-longer, ArePlaces-empty, ArePlaces-longer)
