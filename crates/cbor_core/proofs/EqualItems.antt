-- Items that are the same numbers are the same.
use Rattle.std.proofs.Common.{◌≡◌, ℕ, Bool, false, eqb, List, [], ◌∷◌, ◌++◌, length, refl, sym, ap, ◌∙◌, append_assoc, arith}
use Rattle.std.specs.Prelude.{◌↔◌, IsTrue}
use Rattle.std.specs.Bool.{one_answer}
use Rattle.std.specs.List.{flat_map, AllByRecursion}
use Rattle.std.specs.Cmp.Lexicographic.{bytes_decides}
use Rattle.std.proofs.lemmas.Bool.{eq-eqb, false≢true}
use Rattle.std.proofs.lemmas.List.{length-map}
use Rattle.std.proofs.lemmas.List.Folds.{flat_map-map}
use Rattle.cbor_core.specs.declared.item.Item.{Item, out-Item, fold-roll-Item}
use Rattle.cbor_core.specs.declared.item.Item.TheOpen.{Item-F}
use Rattle.cbor_core.specs.declared.item.Item.TheVariants as v
use Rattle.cbor_core.specs.declared.item.Pair.{Pair}
use Rattle.cbor_core.specs.Equality.{numbers_step, numbers_of, equal_items}
use Rattle.cbor_core.proofs.Writes.{seen}
use Rattle.cbor_core.proofs.Lawful.{by_cases}
use Rattle.base_types.proofs.Lists.{same_fronts}

-- ---- one level

numbers-Whole : (n : ℕ) → numbers_of (v.Whole n) ≡ 0 ∷ n ∷ []
numbers-Whole n = ap numbers_of (sym (v.rolls-Whole n)) ∙ fold-roll-Item (List ℕ) numbers_step (Item-F.Whole n)

numbers-Blob : (bytes : List ℕ) → numbers_of (v.Blob bytes) ≡ 2 ∷ length bytes ∷ bytes
numbers-Blob bytes = ap numbers_of (sym (v.rolls-Blob bytes)) ∙ fold-roll-Item (List ℕ) numbers_step (Item-F.Blob bytes)

numbers-Text : (bytes : List ℕ) → numbers_of (v.Text bytes) ≡ 3 ∷ length bytes ∷ bytes
numbers-Text bytes = ap numbers_of (sym (v.rolls-Text bytes)) ∙ fold-roll-Item (List ℕ) numbers_step (Item-F.Text bytes)

numbers-List : (is : List Item) → numbers_of (v.List is) ≡ 4 ∷ length is ∷ flat_map numbers_of is
numbers-List is = ap numbers_of (sym (v.rolls-List is)) ∙ fold-roll-Item (List ℕ) numbers_step (Item-F.List is) ∙ rw (length-map is numbers_of, flat_map-map (λ (i : List ℕ). i) numbers_of is) refl

numbers-Map : (ps : List (Pair Item)) → numbers_of (v.Map ps) ≡ 5 ∷ length ps ∷ flat_map (λ (p : Pair Item). p.key ∷ numbers_of p.value) ps
unfolding seen
numbers-Map ps = ap numbers_of (sym (v.rolls-Map ps)) ∙ fold-roll-Item (List ℕ) numbers_step (Item-F.Map ps) ∙ rw (length-map ps (seen numbers_of), flat_map-map (λ (p : Pair (List ℕ)). p.key ∷ p.value) (seen numbers_of) ps) refl

-- ---- no item's numbers begin another's

abbrev Front : Item → Type 0
Front i = (j : Item) (x y : List ℕ) → numbers_of i ++ x ≡ numbers_of j ++ y → (i ≡ j) × (x ≡ y)

-- the same numbers, where each item is seen as its own
as_seen : (i j : Item) (a b x y : List ℕ) → numbers_of i ≡ a → numbers_of j ≡ b → numbers_of i ++ x ≡ numbers_of j ++ y → a ++ x ≡ b ++ y
as_seen i j a b x y p q h = ap (λ (z : List ℕ). z ++ x) (sym p) ∙ h ∙ ap (λ (z : List ℕ). z ++ y) q

-- items of two kinds
unlike : {C : Type 0} (i j : Item) (k l : ℕ) (a b x y : List ℕ) → eqb k l ≡ false → numbers_of i ≡ k ∷ a → numbers_of j ≡ l ∷ b → numbers_of i ++ x ≡ numbers_of j ++ y → C
unlike i j k l a b x y ne p q h =
    let s : k ∷ (a ++ x) ≡ l ∷ (b ++ y) = as_seen i j (k ∷ a) (l ∷ b) x y p q h in
    let same : k ≡ l = cc in
    absurd (false≢true (sym ne ∙ eq-eqb k l same))

items_front : (is js : List Item) (x y : List ℕ) → AllByRecursion Front is → length is ≡ length js → flat_map numbers_of is ++ x ≡ flat_map numbers_of js ++ y → (is ≡ js) × (x ≡ y)
items_front [] [] x y e l h = (refl, h)
items_front [] (j ∷ js) x y e l h = absurd (omega (arith, l))
items_front (i ∷ is) [] x y e l h = absurd (omega (arith, l))
items_front (i ∷ is) (j ∷ js) x y e l h =
    let lined = sym (append_assoc (numbers_of i) (flat_map numbers_of is) x) ∙ h ∙ append_assoc (numbers_of j) (flat_map numbers_of js) y in
    let first = e.0 j (flat_map numbers_of is ++ x) (flat_map numbers_of js ++ y) lined in
    let long : length is ≡ length js = omega (arith, l) in
    let rest = items_front is js x y e.1 long first.1 in
    let a : i ≡ j = first.0 in
    let b : is ≡ js = rest.0 in
    (cc, rest.1)

abbrev pair_numbers : Pair Item → List ℕ
pair_numbers p = p.key ∷ numbers_of p.value

pairs_front : (ps qs : List (Pair Item)) (x y : List ℕ) → AllByRecursion (λ (p : Pair Item). Front p.value) ps → length ps ≡ length qs → flat_map pair_numbers ps ++ x ≡ flat_map pair_numbers qs ++ y → (ps ≡ qs) × (x ≡ y)
pairs_front [] [] x y e l h = (refl, h)
pairs_front [] (q ∷ qs) x y e l h = absurd (omega (arith, l))
pairs_front (p ∷ ps) [] x y e l h = absurd (omega (arith, l))
pairs_front (p ∷ ps) (q ∷ qs) x y e l h =
    let key : p.key ≡ q.key = cc in
    let tails : (numbers_of p.value ++ flat_map pair_numbers ps) ++ x ≡ (numbers_of q.value ++ flat_map pair_numbers qs) ++ y = cc in
    let lined = sym (append_assoc (numbers_of p.value) (flat_map pair_numbers ps) x) ∙ tails ∙ append_assoc (numbers_of q.value) (flat_map pair_numbers qs) y in
    let first = e.0 q.value (flat_map pair_numbers ps ++ x) (flat_map pair_numbers qs ++ y) lined in
    let long : length ps ≡ length qs = omega (arith, l) in
    let rest = pairs_front ps qs x y e.1 long first.1 in
    let value : p.value ≡ q.value = first.0 in
    let a : p ≡ q = λ i. record { key = key i; value = value i } in
    let b : ps ≡ qs = rest.0 in
    (cc, rest.1)

module _ (x y : List ℕ) where
  abbrev Goal : Item → Item → Type 0
  Goal i j = numbers_of i ++ x ≡ numbers_of j ++ y → (i ≡ j) × (x ≡ y)

  whole_front : (n : ℕ) (j : Item) → Goal (v.Whole n) j
  whole_front n = by_cases (Goal (v.Whole n)) record {
    whole = λ m h.
        let s : 0 ∷ n ∷ x ≡ 0 ∷ m ∷ y = as_seen _ _ _ _ x y (numbers-Whole n) (numbers-Whole m) h in
        let a : n ≡ m = cc in
        let b : x ≡ y = cc in
        (ap v.Whole a, b);
    blob = λ bs h. unlike _ _ 0 2 _ _ x y refl (numbers-Whole n) (numbers-Blob bs) h;
    text = λ bs h. unlike _ _ 0 3 _ _ x y refl (numbers-Whole n) (numbers-Text bs) h;
    items = λ js e h. unlike _ _ 0 4 _ _ x y refl (numbers-Whole n) (numbers-List js) h;
    pairs = λ qs e h. unlike _ _ 0 5 _ _ x y refl (numbers-Whole n) (numbers-Map qs) h;
  }

  blob_front : (c : List ℕ) (j : Item) → Goal (v.Blob c) j
  blob_front c = by_cases (Goal (v.Blob c)) record {
    whole = λ m h. unlike _ _ 2 0 _ _ x y refl (numbers-Blob c) (numbers-Whole m) h;
    blob = λ d h.
        let s : 2 ∷ length c ∷ (c ++ x) ≡ 2 ∷ length d ∷ (d ++ y) = as_seen _ _ _ _ x y (numbers-Blob c) (numbers-Blob d) h in
        let l : length c ≡ length d = cc in
        let t : c ++ x ≡ d ++ y = cc in
        let both = same_fronts c d x y l t in
        (ap v.Blob both.0, both.1);
    text = λ d h. unlike _ _ 2 3 _ _ x y refl (numbers-Blob c) (numbers-Text d) h;
    items = λ js e h. unlike _ _ 2 4 _ _ x y refl (numbers-Blob c) (numbers-List js) h;
    pairs = λ qs e h. unlike _ _ 2 5 _ _ x y refl (numbers-Blob c) (numbers-Map qs) h;
  }

  text_front : (c : List ℕ) (j : Item) → Goal (v.Text c) j
  text_front c = by_cases (Goal (v.Text c)) record {
    whole = λ m h. unlike _ _ 3 0 _ _ x y refl (numbers-Text c) (numbers-Whole m) h;
    blob = λ d h. unlike _ _ 3 2 _ _ x y refl (numbers-Text c) (numbers-Blob d) h;
    text = λ d h.
        let s : 3 ∷ length c ∷ (c ++ x) ≡ 3 ∷ length d ∷ (d ++ y) = as_seen _ _ _ _ x y (numbers-Text c) (numbers-Text d) h in
        let l : length c ≡ length d = cc in
        let t : c ++ x ≡ d ++ y = cc in
        let both = same_fronts c d x y l t in
        (ap v.Text both.0, both.1);
    items = λ js e h. unlike _ _ 3 4 _ _ x y refl (numbers-Text c) (numbers-List js) h;
    pairs = λ qs e h. unlike _ _ 3 5 _ _ x y refl (numbers-Text c) (numbers-Map qs) h;
  }

  list_front : (is : List Item) → AllByRecursion Front is → (j : Item) → Goal (v.List is) j
  list_front is fronts = by_cases (Goal (v.List is)) record {
    whole = λ m h. unlike _ _ 4 0 _ _ x y refl (numbers-List is) (numbers-Whole m) h;
    blob = λ d h. unlike _ _ 4 2 _ _ x y refl (numbers-List is) (numbers-Blob d) h;
    text = λ d h. unlike _ _ 4 3 _ _ x y refl (numbers-List is) (numbers-Text d) h;
    items = λ js e h.
        let s : 4 ∷ length is ∷ (flat_map numbers_of is ++ x) ≡ 4 ∷ length js ∷ (flat_map numbers_of js ++ y) = as_seen _ _ _ _ x y (numbers-List is) (numbers-List js) h in
        let l : length is ≡ length js = cc in
        let t : flat_map numbers_of is ++ x ≡ flat_map numbers_of js ++ y = cc in
        let both = items_front is js x y fronts l t in
        (ap v.List both.0, both.1);
    pairs = λ qs e h. unlike _ _ 4 5 _ _ x y refl (numbers-List is) (numbers-Map qs) h;
  }

  map_front : (ps : List (Pair Item)) → AllByRecursion (λ (p : Pair Item). Front p.value) ps → (j : Item) → Goal (v.Map ps) j
  map_front ps fronts = by_cases (Goal (v.Map ps)) record {
    whole = λ m h. unlike _ _ 5 0 _ _ x y refl (numbers-Map ps) (numbers-Whole m) h;
    blob = λ d h. unlike _ _ 5 2 _ _ x y refl (numbers-Map ps) (numbers-Blob d) h;
    text = λ d h. unlike _ _ 5 3 _ _ x y refl (numbers-Map ps) (numbers-Text d) h;
    items = λ js e h. unlike _ _ 5 4 _ _ x y refl (numbers-Map ps) (numbers-List js) h;
    pairs = λ qs e h.
        let s : 5 ∷ length ps ∷ (flat_map pair_numbers ps ++ x) ≡ 5 ∷ length qs ∷ (flat_map pair_numbers qs ++ y) = as_seen _ _ _ _ x y (numbers-Map ps) (numbers-Map qs) h in
        let l : length ps ≡ length qs = cc in
        let t : flat_map pair_numbers ps ++ x ≡ flat_map pair_numbers qs ++ y = cc in
        let both = pairs_front ps qs x y fronts l t in
        (ap v.Map both.0, both.1);
  }

front : (i : Item) → Front i
front = by_cases Front record {
  whole = λ n j x y. whole_front x y n j;
  blob = λ c j x y. blob_front x y c j;
  text = λ c j x y. text_front x y c j;
  items = λ is e j x y. list_front x y is e j;
  pairs = λ ps e j x y. map_front x y ps e j;
}

-- items are equal exactly where they are the same
pub equal_is_same : (i j : Item) → IsTrue (equal_items i j) ↔ (i ≡ j)
equal_is_same i j =
    let d = bytes_decides (numbers_of i) (numbers_of j) in
    ((λ h. (front i j [] [] (ap (λ (z : List ℕ). z ++ []) (d.0 h))).0), (λ e. d.1 (ap numbers_of e)))

-- ---- the code that compares

-- a test that answers true exactly where two items are the same is that of equality
pub same_test : (i j : Item) (b : Bool) → IsTrue b ↔ (i ≡ j) → b ≡ equal_items i j
same_test i j b is = one_answer b (equal_items i j) is (equal_is_same i j)

-- lists that are one item hold the same
pub List-injective : (is js : List Item) → v.List is ≡ v.List js → is ≡ js
List-injective is js e = let same : Item-F.List is ≡ Item-F.List js = sym (v.outs-List is) ∙ ap out-Item e ∙ v.outs-List js in cc

-- maps that are one item hold the same
pub Map-injective : (ps qs : List (Pair Item)) → v.Map ps ≡ v.Map qs → ps ≡ qs
Map-injective ps qs e = let same : Item-F.Map ps ≡ Item-F.Map qs = sym (v.outs-Map ps) ∙ ap out-Item e ∙ v.outs-Map qs in cc

pub ruleset equality_steps = (List-injective, Map-injective)
