-- Texts by their numbers.
use Rattle.std.proofs.Common.{◌≡◌, ℕ, zero, suc, ◌+◌, ◌<◌, List, [], ◌∷◌, ◌++◌, length, map, get_or, refl, sym, ap, ◌∙◌, arith, inl, inr}
use Rattle.std.proofs.lemmas.Bool.{cases_lt}
use Rattle.std.proofs.lemmas.List.{length-append, length-map, map-append, get_or_append_left, get_or_at}
use Rattle.rdfc_ndegree.specs.Table.{numbers_below}

-- so many numbers are below a number
pub length-numbers : (n : ℕ) → length (numbers_below n) ≡ n
length-numbers zero = refl
length-numbers (suc n) = omega (arith, length-append (numbers_below n) (n ∷ []), length-numbers n)

module _ {X : Type 0} (f : ℕ → X) where
  -- one more
  pub map-numbers_next : (n : ℕ) → map f (numbers_below (n + 1)) ≡ map f (numbers_below n) ++ f n ∷ []
  map-numbers_next n =
      let more : n + 1 ≡ suc n = omega arith in
      ap (λ (k : ℕ). map f (numbers_below k)) more ∙ map-append f (numbers_below n) (n ∷ [])

  pub length-map_numbers : (n : ℕ) → length (map f (numbers_below n)) ≡ n
  length-map_numbers n = length-map (numbers_below n) f ∙ length-numbers n

  -- what stands at a number
  pub at-number : (n i : ℕ) (d : X) → i < n → get_or (map f (numbers_below n)) i d ≡ f i
  at-number zero i d below = absurd (omega arith)
  at-number (suc n) i d below =
      ap (λ (xs : List X). get_or xs i d) (map-append f (numbers_below n) (n ∷ []))
      ∙ elim (cases_lt i n) [
        | inl earlier ↦
            get_or_append_left (map f (numbers_below n)) (f n ∷ []) d i (omega (arith, length-map_numbers n))
            ∙ at-number n i d earlier
        | inr last ↦
            let here : length (map f (numbers_below n)) ≡ i = omega (arith, length-map_numbers n) in
            let same : i ≡ n = omega arith in
            get_or_at (map f (numbers_below n)) (f n) [] d i here ∙ ap f (sym same)
      ]
