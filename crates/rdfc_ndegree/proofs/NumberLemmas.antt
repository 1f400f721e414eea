-- The index of numbers, read as a list.
use Rattle.std.proofs.Common.{◌||◌, ◌≡◌, ℕ, suc, ◌+◌, List, [], ◌∷◌, ◌++◌, length, refl, ap, ◌∙◌, arith, Bool, true, false, cond, not, Option, Some, None, option_map, nat_eq, ◌==◌, ltb}
use Rattle.std.specs.List.{list_any, position, position_or_len}
use Rattle.std.proofs.lemmas.Bool.Decides.{nat_tests}
use Rattle.indexmap.specs.IndexSet.{insert_key}
use Rattle.rdfc_ndegree.specs.Internal.Building.{number_among}

position-cons : {K : Type 0} (p : K → Bool) (k : K) (ks : List K) → position p (k ∷ ks) ≡ cond (p k) (Some 0) (option_map suc (position p ks))
position-cons p k ks = go (p k) (position_or_len p ks) (length ks)
  where
    later : (t : Bool) (m n : ℕ) → ltb m n ≡ t → cond (ltb (suc m) (suc n)) (Some (suc m)) None ≡ option_map suc (cond t (Some m) None)
    later true m n e = let f : ltb (suc m) (suc n) ≡ true = grind (arith, nat_tests) in ap (λ t. cond t (Some (suc m)) None) f
    later false m n e = let f : ltb (suc m) (suc n) ≡ false = grind (arith, nat_tests) in ap (λ t. cond t (Some (suc m)) None) f

    go : (t : Bool) (m n : ℕ) → cond (ltb (cond (not t) (1 + m) 0) (suc n)) (Some (cond (not t) (1 + m) 0)) None ≡ cond t (Some 0) (option_map suc (cond (ltb m n) (Some m) None))
    go true m n = let f : ltb 0 (suc n) ≡ true = grind (arith, nat_tests) in ap (λ t. cond t (Some 0) None) f
    go false m n = let e : 1 + m ≡ suc m = omega arith in ap (λ j. cond (ltb j (suc n)) (Some j) None) e ∙ later (ltb m n) m n refl

-- the place that a search by hash finds
pub position-number : (n : ℕ) (ks : List ℕ) → position (nat_eq n) ks ≡ number_among ks n
position-number n [] = refl
position-number n (k ∷ ks) = position-cons (nat_eq n) k ks ∙ ap (λ o. cond (n == k) (Some 0) (option_map suc o)) (position-number n ks)

none_among : (n : ℕ) (ks : List ℕ) → number_among ks n ≡ None → list_any (nat_eq n) ks ≡ false
none_among n [] e = refl
none_among n (k ∷ ks) e = go (n == k) (number_among ks n) e (none_among n ks)
  where
    go : (t : Bool) (o : Option ℕ) → cond t (Some 0) (option_map suc o) ≡ None → (o ≡ None → list_any (nat_eq n) ks ≡ false) → (t || list_any (nat_eq n) ks) ≡ false
    go true o e rest = absurd (cc)
    go false None e rest = rest refl
    go false (Some m) e rest = absurd (cc)

-- a number that has no place is put at the end
pub insert_key-new : (n : ℕ) (ks : List ℕ) → number_among ks n ≡ None → insert_key nat_eq ks n ≡ ks ++ n ∷ []
insert_key-new n ks e = ap (λ t. cond t ks (ks ++ n ∷ [])) (none_among n ks e)
