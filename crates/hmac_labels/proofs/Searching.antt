-- The search finds the least pair of places with one text, or there is none.
use Rattle.std.proofs.Common.{◌≡◌, ℕ, zero, suc, ◌+◌, ◌<◌, ◌≤◌, Bool, true, false, cond, List, [], ◌∷◌, length, map, get_or, Option, Some, None, ◌⊎◌, inl, inr, refl, sym, ap, subst, ◌∙◌, arith}
use Rattle.std.specs.Str.{bytes_eq}
use Rattle.std.proofs.lemmas.Slice.Eq.{bytes_eq-Decides}
use Rattle.base_types.specs.Sets.{AllDiffer}
use Rattle.rdfc_ndegree.specs.Table.{numbers_below}
use Rattle.hmac_labels.specs.Clashes.{IsClash, IsLeastClash}
use Rattle.hmac_labels.specs.Internal.Searching.{place_from, pair_or, least_from}
use Rattle.hmac_labels.proofs.Numbers.{at-number, length-map_numbers}

-- ---- the first place of a text

-- a text stands first at a place, counted from another
record IsFirst (at : ℕ) (texts : List (List ℕ)) (text : List ℕ) (place : ℕ) : Type 0 where
  k : ℕ
  is : place ≡ at + k
  within : k < length texts
  holds : get_or texts k [] ≡ text
  first : (j : ℕ) → j < length texts → get_or texts j [] ≡ text → k ≤ j

-- it stands first there, or nowhere
abbrev Placed : ℕ → List (List ℕ) → List ℕ → Option ℕ → Type 0
Placed at texts text None = (j : ℕ) → j < length texts → get_or texts j [] ≡ text → ⊥
Placed at texts text (Some place) = IsFirst at texts text place

-- a text behind another
placed-next : (at : ℕ) (t : List ℕ) (texts : List (List ℕ)) (text : List ℕ) (found : Option ℕ)
    → (t ≡ text → ⊥) → Placed (1 + at) texts text found → Placed at (t ∷ texts) text found
placed-next at t texts text None other none = nowhere
  where
    nowhere : (j : ℕ) → j < length (t ∷ texts) → get_or (t ∷ texts) j [] ≡ text → ⊥
    nowhere zero below same = other same
    nowhere (suc j) below same = none j (omega arith) same
placed-next at t texts text (Some place) other found = record {
  k = suc found.k;
  is = omega (arith, found.is);
  within = omega (arith, found.within);
  holds = found.holds;
  first = earlier;
}
  where
    earlier : (j : ℕ) → j < length (t ∷ texts) → get_or (t ∷ texts) j [] ≡ text → suc found.k ≤ j
    earlier zero below same = absurd (other same)
    earlier (suc j) below same = omega (arith, found.first j (omega arith) same)

placed : (at : ℕ) (texts : List (List ℕ)) (text : List ℕ) → Placed at texts text (place_from at texts text)
placed at [] text = λ j below same. absurd (omega arith)
placed at (t ∷ texts) text = go (bytes_eq t text) refl (placed (1 + at) texts text)
  where
    here : t ≡ text → IsFirst at (t ∷ texts) text at
    here same = record { k = 0; is = omega arith; within = omega arith; holds = same; first = λ j below e. omega arith }

    go : (b : Bool) → bytes_eq t text ≡ b → Placed (1 + at) texts text (place_from (1 + at) texts text)
        → Placed at (t ∷ texts) text (cond (bytes_eq t text) (Some at) (place_from (1 + at) texts text))
    go true e later =
        subst (λ (b : Bool). Placed at (t ∷ texts) text (cond b (Some at) (place_from (1 + at) texts text))) (sym e)
        (here ((bytes_eq-Decides t text).0 e))
    go false e later =
        subst (λ (b : Bool). Placed at (t ∷ texts) text (cond b (Some at) (place_from (1 + at) texts text))) (sym e)
        (placed-next at t texts text (place_from (1 + at) texts text)
        (λ same. differ (sym e ∙ (bytes_eq-Decides t text).1 same)) later)
      where
        differ : false ≡ true → ⊥
        differ x = absurd (cc x)

-- ---- the least pair of places

-- two places hold one text
record IsPair (texts : List (List ℕ)) (i j : ℕ) : Type 0 where
  rising : i < j
  within : j < length texts
  one : get_or texts i [] ≡ get_or texts j []

-- the least pair, counted from a place
record IsLeastPair (at : ℕ) (texts : List (List ℕ)) (first second : ℕ) : Type 0 where
  i : ℕ
  j : ℕ
  first_is : first ≡ at + i
  second_is : second ≡ at + j
  pair : IsPair texts i j
  least : (x y : ℕ) → IsPair texts x y → (i < x) ⊎ ((i ≡ x) × (j ≤ y))

-- it is the least pair, or there is none
abbrev Searched : ℕ → List (List ℕ) → Option (ℕ × ℕ) → Type 0
Searched at texts None = (x y : ℕ) → IsPair texts x y → ⊥
Searched at texts (Some found) = IsLeastPair at texts found.0 found.1

-- a pair whose first place is not the first of all
pair-behind : (t : List ℕ) (texts : List (List ℕ)) (x y : ℕ) → IsPair (t ∷ texts) (suc x) (suc y) → IsPair texts x y
pair-behind t texts x y pair = record { rising = omega (arith, pair.rising); within = omega (arith, pair.within); one = pair.one }

-- no later place holds the first text, so the pairs are those behind it
searched-behind : (at : ℕ) (t : List ℕ) (texts : List (List ℕ)) (found : Option (ℕ × ℕ))
    → ((j : ℕ) → j < length texts → get_or texts j [] ≡ t → ⊥) → Searched (1 + at) texts found
    → Searched at (t ∷ texts) found
searched-behind at t texts None alone none = nowhere
  where
    nowhere : (x y : ℕ) → IsPair (t ∷ texts) x y → ⊥
    nowhere zero zero pair = absurd (omega (arith, pair.rising))
    nowhere zero (suc y) pair = alone y (omega (arith, pair.within)) (sym pair.one)
    nowhere (suc x) zero pair = absurd (omega (arith, pair.rising))
    nowhere (suc x) (suc y) pair = none x y (pair-behind t texts x y pair)
searched-behind at t texts (Some found) alone is = record {
  i = suc is.i;
  j = suc is.j;
  first_is = omega (arith, is.first_is);
  second_is = omega (arith, is.second_is);
  pair = record { rising = omega (arith, is.pair.rising); within = omega (arith, is.pair.within); one = is.pair.one };
  least = later;
}
  where
    later : (x y : ℕ) → IsPair (t ∷ texts) x y → (suc is.i < x) ⊎ ((suc is.i ≡ x) × (suc is.j ≤ y))
    later zero zero pair = absurd (omega (arith, pair.rising))
    later zero (suc y) pair = absurd (alone y (omega (arith, pair.within)) (sym pair.one))
    later (suc x) zero pair = absurd (omega (arith, pair.rising))
    later (suc x) (suc y) pair = elim (is.least x y (pair-behind t texts x y pair)) [
      | inl less ↦ inl (omega (arith, less))
      | inr same ↦ inr (omega (arith, same.0), omega (arith, same.1))
    ]

-- the first text and its next place are the least pair
searched-here : (at : ℕ) (t : List ℕ) (texts : List (List ℕ)) (later : ℕ) → IsFirst (1 + at) texts t later
    → IsLeastPair at (t ∷ texts) at later
searched-here at t texts later found = record {
  i = 0;
  j = suc found.k;
  first_is = omega arith;
  second_is = omega (arith, found.is);
  pair = record { rising = omega arith; within = omega (arith, found.within); one = sym found.holds };
  least = least;
}
  where
    least : (x y : ℕ) → IsPair (t ∷ texts) x y → (0 < x) ⊎ ((0 ≡ x) × (suc found.k ≤ y))
    least zero zero pair = absurd (omega (arith, pair.rising))
    least zero (suc y) pair = inr (refl, omega (arith, found.first y (omega (arith, pair.within)) (sym pair.one)))
    least (suc x) y pair = inl (omega arith)

searched-step : (at : ℕ) (t : List ℕ) (texts : List (List ℕ)) (later : Option ℕ) (found : Option (ℕ × ℕ))
    → Placed (1 + at) texts t later → Searched (1 + at) texts found → Searched at (t ∷ texts) (pair_or at later found)
searched-step at t texts None found alone is = searched-behind at t texts found alone is
searched-step at t texts (Some later) found first is = searched-here at t texts later first

-- the search finds the least pair, or there is none
searched : (at : ℕ) (texts : List (List ℕ)) → Searched at texts (least_from at texts)
searched at [] = λ x y pair. absurd (omega (arith, pair.within))
searched at (t ∷ texts) =
    searched-step at t texts (place_from (1 + at) texts t) (least_from (1 + at) texts) (placed (1 + at) texts t)
    (searched (1 + at) texts)

-- ---- the labels of numbers

module _ (label : ℕ → List ℕ) (count : ℕ) where
  abbrev labels : List (List ℕ)
  labels = map label (numbers_below count)

  -- two numbers clash where their places hold one text
  clash-pair : (a b : ℕ) → IsClash label count a b → IsPair labels a b
  clash-pair a b c =
      let size = length-map_numbers label count in
      record {
        rising = c.rising;
        within = omega (arith, size, c.below);
        one = at-number label count a [] (omega (arith, c.rising, c.below)) ∙ c.one ∙ sym (at-number label count b [] c.below);
      }

  pair-clash : (a b : ℕ) → IsPair labels a b → IsClash label count a b
  pair-clash a b p =
      let below : b < count = omega (arith, length-map_numbers label count, p.within) in
      record {
        rising = p.rising;
        below = below;
        one = sym (at-number label count a [] (omega (arith, p.rising, below))) ∙ p.one ∙ at-number label count b [] below;
      }

  least-clash : (a b : ℕ) → IsLeastPair 0 labels a b → IsLeastClash label count a b
  least-clash a b p =
      let i : p.i ≡ a = omega (arith, p.first_is) in
      let j : p.j ≡ b = omega (arith, p.second_is) in
      record {
        clash = pair-clash a b (subst (λ (y : ℕ). IsPair labels a y) j (subst (λ (x : ℕ). IsPair labels x p.j) i p.pair));
        least = λ x y c. elim (p.least x y (clash-pair x y c)) [
          | inl less ↦ inl (omega (arith, less, i))
          | inr same ↦ inr (omega (arith, same.0, i), omega (arith, same.1, j))
        ];
      }

  -- what the search answers for the labels of numbers: the least pair that clashes
  pub found_clash : (texts : List (List ℕ)) (answer : Option (ℕ × ℕ)) (a b : ℕ) → texts ≡ labels → answer ≡ least_from 0 texts
      → answer ≡ Some (a, b) → IsLeastClash label count a b
  found_clash texts answer a b is searches found =
      let searches_labels : least_from 0 labels ≡ Some (a, b) = ap (least_from 0) (sym is) ∙ sym searches ∙ found in
      least-clash a b (subst (Searched 0 labels) searches_labels (searched 0 labels))

  no_pair : (texts : List (List ℕ)) (answer : Option (ℕ × ℕ)) → texts ≡ labels → answer ≡ least_from 0 texts → answer ≡ None
      → (x y : ℕ) → IsPair labels x y → ⊥
  no_pair texts answer is searches none =
      let searches_labels : least_from 0 labels ≡ None = ap (least_from 0) (sym is) ∙ sym searches ∙ none in
      subst (Searched 0 labels) searches_labels (searched 0 labels)

  -- where none clash, the labels differ
  pub all_differ : (texts : List (List ℕ)) (answer : Option (ℕ × ℕ)) → texts ≡ labels → answer ≡ least_from 0 texts → answer ≡ None
      → AllDiffer labels
  all_differ texts answer is searches none = λ i j d rising within same.
      let below : j < count = omega (arith, length-map_numbers label count, within) in
      let before : i < count = omega (arith, rising, below) in
      no_pair texts answer is searches none i j record {
        rising = rising;
        within = within;
        one = at-number label count i [] before ∙ sym (at-number label count i d before) ∙ same
            ∙ at-number label count j d below ∙ sym (at-number label count j [] below);
      }

-- where two numbers clash there is a least such pair
pub some_least : (label : ℕ → List ℕ) (count a b : ℕ) → IsClash label count a b
    → (first second : ℕ) × IsLeastClash label count first second
some_least label count a b clash = go (least_from 0 (labels label count)) refl
  where
    go : (answer : Option (ℕ × ℕ)) → answer ≡ least_from 0 (labels label count)
        → (first second : ℕ) × IsLeastClash label count first second
    go None e = absurd (no_pair label count (labels label count) None refl e refl a b (clash-pair label count a b clash))
    go (Some found) e = (found.0, found.1, found_clash label count (labels label count) (Some found) found.0 found.1 refl e refl)
