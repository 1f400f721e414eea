-- Elements of lists, for the laws of datasets.
use Rattle.std.proofs.Common.{◌≡◌, ◌≢◌, ℕ, zero, suc, ◌<◌, List, [], ◌∷◌, length, map, get_or, All, Contains, sym, ◌∙◌, subst, zero-lt-suc, suc-le-suc, le_of_suc-le-suc, not-suc-le-zero}
use Rattle.std.proofs.lemmas.List.{get_or_default}
use Rattle.std.proofs.lemmas.List.Elements.{Contains-get_or}
use Rattle.base_types.specs.Sets.{AllDiffer}
use Rattle.base_types.proofs.Lists.{Contains-here, Contains-there, Contains-from_map}
use Rattle.base_types.specs.Order.{sorted_set}
use Rattle.base_types.proofs.Rising.{rising-same}

-- ---- membership

-- what holds of each element that the list contains
pub All-from_contains : {X : Type 0} (P : X → Type 0) (xs : List X) → ((x : X) → Contains xs x → P x) → All P xs
All-from_contains P xs h = λ k d l. h (get_or xs k d) (Contains-get_or xs k d l)

-- ---- no element twice, by the head and the tail

-- no two elements of the empty list are one
pub AllDiffer-nil : {X : Type 0} → AllDiffer {X = X} []
AllDiffer-nil = λ i j d l m. absurd (not-suc-le-zero m)

-- the first element is not among the others
pub AllDiffer-head : {X : Type 0} (x : X) (xs : List X) → AllDiffer (x ∷ xs) → Contains xs x → ⊥
AllDiffer-head x xs a m = a zero (suc m.0) x (zero-lt-suc m.0) (suc-le-suc m.1) (sym m.2)

-- the others differ
pub AllDiffer-tail : {X : Type 0} (x : X) (xs : List X) → AllDiffer (x ∷ xs) → AllDiffer xs
AllDiffer-tail x xs a = λ i j d l m. a (suc i) (suc j) d (suc-le-suc l) (suc-le-suc m)

-- one more element that is not among them
pub AllDiffer-cons : {X : Type 0} (x : X) (xs : List X) → (Contains xs x → ⊥) → AllDiffer xs → AllDiffer (x ∷ xs)
AllDiffer-cons {X} x xs n a = go
  where
    go : (i j : ℕ) (d : X) → i < j → j < length (x ∷ xs) → get_or (x ∷ xs) i d ≢ get_or (x ∷ xs) j d
    go zero zero d l m e = not-suc-le-zero l
    go zero (suc j) d l m e = n (j, le_of_suc-le-suc m, get_or_default xs j x d (le_of_suc-le-suc m) ∙ sym e)
    go (suc i) zero d l m e = not-suc-le-zero l
    go (suc i) (suc j) d l m e = a i j d (le_of_suc-le-suc l) (le_of_suc-le-suc m) e

-- a map that is one to one on the elements
pub AllDiffer-map : {X Y : Type 0} (f : X → Y) (xs : List X) → ((x y : X) → Contains xs x → Contains xs y → f x ≡ f y → x ≡ y) → AllDiffer xs → AllDiffer (map f xs)
AllDiffer-map f [] o a = AllDiffer-nil
AllDiffer-map f (x ∷ xs) o a =
    AllDiffer-cons (f x) (map f xs)
    (λ m. let r = Contains-from_map f xs (f x) m in
    let same : r.0 ≡ x = o r.0 x (Contains-there x xs r.0 r.1) (Contains-here x xs) r.2 in
    AllDiffer-head x xs a (subst (λ z. Contains xs z) same r.1))
    (AllDiffer-map f xs (λ y z m n e. o y z (Contains-there x xs y m) (Contains-there x xs z n) e) (AllDiffer-tail x xs a))

-- ---- texts in order hold what was put in order

-- what stands in the sorted set stood in the list
pub from_rising : (ts : List (List ℕ)) (x : List ℕ) → Contains (sorted_set ts) x → Contains ts x
from_rising ts x = (rising-same ts x).0

-- and the other way round
pub to_rising : (ts : List (List ℕ)) (x : List ℕ) → Contains ts x → Contains (sorted_set ts) x
to_rising ts x = (rising-same ts x).1
