-- Ties kept by their lengths: which of them decide.
use Rattle.std.proofs.Common.{◌≡◌, ℕ, ◌≤◌, min, List, [], ◌∷◌, ◌++◌, length, take, drop, Bool, true, false, ◌&&◌, ◌||◌, ◌==◌, if◌then◌else◌, Option, Some, None, refl, sym, ap, ◌∙◌, subst, ⊎_elim, arith}
use Rattle.std.specs.Prelude.{is_some}
use Rattle.std.specs.List.{starts_with}
use Rattle.std.proofs.Math.Bool.{or-false}
use Rattle.std.proofs.lemmas.Bool.{and_parts, false≢true, cases_lt, false_from_ne_true}
use Rattle.std.proofs.lemmas.Bool.Decides.{Decides-eqb}
use Rattle.std.proofs.lemmas.List.{take-append-drop, take-append-le, take-take, take_all, length-append, length-take-le}
use Rattle.std.proofs.lemmas.List.Folds.{list_any-append}
use Rattle.base_types.specs.Order.{is_upto}
use Rattle.base_types.proofs.Orders.{is_upto-antisymmetric}
use Rattle.rdfc_ndegree.specs.Internal.Evaluations.{is_tied_at, IsWithin, IsFirstTie, first_tie, shorter, kept_tie}
use Rattle.rdfc_ndegree.proofs.PrefixesAndPairs.{begins, begins-starts_with, begins-refl, begins-append, one_side}

-- ---- fronts of texts

begins-take : (n : ℕ) (xs ys : List ℕ) → begins xs ys ≡ true → begins (take n xs) ys ≡ true
begins-take n xs ys h = begins-append (take n xs) (drop n xs) ys (ap (λ z. begins z ys) (take-append-drop n xs) ∙ h)

begins-length : (xs ys : List ℕ) → begins xs ys ≡ true → length xs ≤ length ys
begins-length [] ys h = omega arith
begins-length (x ∷ xs) [] h = absurd (false≢true h)
begins-length (x ∷ xs) (y ∷ ys) h = let rest : length xs ≤ length ys = begins-length xs ys (and_parts (x == y) (begins xs ys) h).1 in omega arith

begins-same : (xs ys : List ℕ) → begins xs ys ≡ true → take (length xs) ys ≡ xs
begins-same [] ys h = refl
begins-same (x ∷ xs) [] h = absurd (false≢true h)
begins-same (x ∷ xs) (y ∷ ys) h =
    let parts = and_parts (x == y) (begins xs ys) h in
    let first : y ≡ x = sym ((Decides-eqb x y).0 parts.0) in
    let rest : take (length xs) ys ≡ xs = begins-same xs ys parts.1 in
    λ i. first i ∷ rest i

-- a text that a front begins has it as its own
take-alike : (n : ℕ) (xs ys : List ℕ) → n ≤ length xs → begins (take n xs) ys ≡ true → take n ys ≡ take n xs
take-alike n xs ys fits h = subst (λ k. take k ys ≡ take n xs) (length-take-le n xs fits) (begins-same (take n xs) ys h)

-- texts that begin alike are an interval of the order
interval : (x lower least other : List ℕ) → begins x lower ≡ true → begins x other ≡ true → is_upto lower least ≡ true → is_upto least other ≡ true → begins x least ≡ true
interval x lower least other f g below above = go (begins x least) refl
  where
    go : (b : Bool) → begins x least ≡ b → b ≡ true
    go true e = refl
    go false e =
        let same : lower ≡ least = is_upto-antisymmetric lower least below (one_side x least other lower e g f above) in
        absurd (false≢true (sym e ∙ ap (begins x) (sym same) ∙ f))

starts-begins : (text x : List ℕ) (b : Bool) → starts_with ◌==◌ text x ≡ b → begins x text ≡ b
starts-begins text x b e = sym (begins-starts_with x text) ∙ e

begins-starts : (text x : List ℕ) (b : Bool) → begins x text ≡ b → starts_with ◌==◌ text x ≡ b
begins-starts text x b e = begins-starts_with x text ∙ e

-- a longer front that begins a text says that a shorter one does
starts-shorter : (text path : List ℕ) (j k : ℕ) → j ≤ k → starts_with ◌==◌ text (take k path) ≡ true → starts_with ◌==◌ text (take j path) ≡ true
starts-shorter text path j k le h =
    begins-starts text (take j path) true (subst (λ x. begins x text ≡ true) (take-take j k path le) (begins-take j (take k path) text (starts-begins text (take k path) true h)))

left-absorbs : (a b : Bool) → (b ≡ true → a ≡ true) → (a || b) ≡ a
left-absorbs true b f = refl
left-absorbs false true f = absurd (false≢true (f refl))
left-absorbs false false f = refl

right-absorbs : (a b : Bool) → (a ≡ true → b ≡ true) → (a || b) ≡ b
right-absorbs true true f = refl
right-absorbs true false f = absurd (false≢true (f refl))
right-absorbs false b f = refl

-- ---- the first tie of a path

-- a path without ties
pub first-none : (path : List ℕ) → IsFirstTie path [] None
first-none path = record { within = tt; decides = λ text. refl }

-- the path has become longer
pub first-longer : (path more : List ℕ) (ties : List (List ℕ)) (first : Option ℕ) → IsFirstTie path ties first → IsFirstTie (path ++ more) ties first
first-longer path more ties None h = record { within = tt; decides = h.decides }
first-longer path more ties (Some n) h =
    let fits : n ≤ length path = h.within in
    let long = length-append path more in
    let still : n ≤ length (path ++ more) = omega arith in
    record { within = still; decides = λ text. h.decides text ∙ ap (starts_with ◌==◌ text) (sym (take-append-le n path more fits)) }

-- perhaps with one more, the whole path
pub first-more : (path : List ℕ) (ties : List (List ℕ)) (first : Option ℕ) (tie : Bool) → IsFirstTie path ties first → IsFirstTie path (if tie then ties ++ path ∷ [] else ties) (first_tie first tie (length path))
first-more path ties None false h = h
first-more path ties (Some k) false h = h
first-more path ties None true h = record {
  within = let all : length path ≤ length path = omega arith in all;
  decides = λ text.
      list_any-append (λ x. starts_with ◌==◌ text x) ties (path ∷ []) ∙ ap (λ b. b || (starts_with ◌==◌ text path || false)) (h.decides text)
      ∙ or-false (starts_with ◌==◌ text path) ∙ ap (starts_with ◌==◌ text) (sym (take_all (length path) path (omega arith)));
}
first-more path ties (Some k) true h = record {
  within = h.within;
  decides = λ text.
      list_any-append (λ x. starts_with ◌==◌ text x) ties (path ∷ []) ∙ ap (λ b. b || (starts_with ◌==◌ text path || false)) (h.decides text)
      ∙ ap (λ b. starts_with ◌==◌ text (take k path) || b) (or-false (starts_with ◌==◌ text path))
      ∙ left-absorbs (starts_with ◌==◌ text (take k path)) (starts_with ◌==◌ text path)
      (λ e. begins-starts text (take k path) true (begins-take k path text (starts-begins text path true e)));
}

-- ---- the shortest tie of the least path

-- one of two ties of a path begins a text where the shorter one does
pub tied-shorter : (text path : List ℕ) (a b : Option ℕ) → (is_tied_at text path a || is_tied_at text path b) ≡ is_tied_at text path (shorter a b)
tied-shorter text path None b = refl
tied-shorter text path (Some j) None = or-false (starts_with ◌==◌ text (take j path))
tied-shorter text path (Some j) (Some k) =
    ⊎_elim
    (λ l. let less : j ≡ min j k = omega arith in
    left-absorbs (starts_with ◌==◌ text (take j path)) (starts_with ◌==◌ text (take k path)) (starts-shorter text path j k (omega arith)) ∙ ap (λ n. starts_with ◌==◌ text (take n path)) less)
    (λ l. let less : k ≡ min j k = omega arith in
    right-absorbs (starts_with ◌==◌ text (take j path)) (starts_with ◌==◌ text (take k path)) (starts-shorter text path k j l) ∙ ap (λ n. starts_with ◌==◌ text (take n path)) less)
    (cases_lt j k)

-- it is within the path
pub within-shorter : (path : List ℕ) (a b : Option ℕ) → IsWithin path a → IsWithin path b → IsWithin path (shorter a b)
within-shorter path None b f g = g
within-shorter path (Some j) None f g = f
within-shorter path (Some j) (Some k) f g = let a : j ≤ length path = f in let b : k ≤ length path = g in let least : min j k ≤ length path = omega arith in least

-- so is a tie of another path that is kept
pub within-kept : (least path : List ℕ) (tie : Option ℕ) → IsWithin path tie → IsWithin least (kept_tie least path tie)
within-kept least path None fits = tt
within-kept least path (Some n) fits = go (starts_with ◌==◌ least (take n path)) refl
  where
    go : (b : Bool) → starts_with ◌==◌ least (take n path) ≡ b → IsWithin least (if b then Some n else None)
    go true e = subst (λ k. k ≤ length least) (length-take-le n path fits) (begins-length (take n path) least (starts-begins least (take n path) true e))
    go false e = tt

-- for texts up to the least path it says what the tie says
pub kept-decides : (text least path : List ℕ) (tie : Option ℕ) → IsWithin path tie → is_upto text least ≡ true → is_upto least path ≡ true → is_tied_at text path tie ≡ is_tied_at text least (kept_tie least path tie)
kept-decides text least path None fits below above = refl
kept-decides text least path (Some n) fits below above = go (starts_with ◌==◌ least (take n path)) refl
  where
    go : (b : Bool) → starts_with ◌==◌ least (take n path) ≡ b → starts_with ◌==◌ text (take n path) ≡ is_tied_at text least (if b then Some n else None)
    go true e = ap (starts_with ◌==◌ text) (sym (take-alike n path least fits (starts-begins least (take n path) true e)))
    go false e =
        false_from_ne_true (starts_with ◌==◌ text (take n path))
        (λ f. false≢true
        (sym (starts-begins least (take n path) false e)
        ∙ interval (take n path) text least path (starts-begins text (take n path) true f) (begins-take n path path (begins-refl path)) below above))

-- the least path's own tie begins it
pub tied-itself : (path : List ℕ) (tie : Option ℕ) → is_some tie ≡ is_tied_at path path tie
tied-itself path None = refl
tied-itself path (Some n) = sym (begins-starts path (take n path) true (begins-take n path path (begins-refl path)))
