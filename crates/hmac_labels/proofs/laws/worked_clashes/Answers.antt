use Rattle.std.proofs.Common.{◌≡◌, ◌/◌, ◌%◌, ◌<◌, ◌≤◌, ◌⊎◌, inl, inr, ℕ, zero, suc, [], ◌∷◌, refl, arith}
use Rattle.hmac_labels.specs.Clashes.{IsClash}
use Rattle.hmac_labels.proofs.laws.worked_clashes.Goals as goal

pub returns-clause-thirds : goal.returns-clause-thirds
returns-clause-thirds c = record {
  clash = record { rising = omega arith; below = omega arith; one = refl };
  least = least;
}
  where
    least : (a b : ℕ) → IsClash (λ n. n % 3 ∷ []) 9 a b → (0 < a) ⊎ ((0 ≡ a) × (3 ≤ b))
    least zero b clash =
        let one : 0 % 3 ≡ b % 3 = cc clash.one in
        inr (refl, omega (arith, clash.rising, one))
    least (suc a) b clash = inl (omega arith)

pub returns-clause-twos : goal.returns-clause-twos
returns-clause-twos c = record {
  clash = record { rising = omega arith; below = omega arith; one = refl };
  least = least;
}
  where
    least : (a b : ℕ) → IsClash (λ n. n / 2 ∷ []) 9 a b → (0 < a) ⊎ ((0 ≡ a) × (1 ≤ b))
    least zero b clash = inr (refl, omega (arith, clash.rising))
    least (suc a) b clash = inl (omega arith)

pub returns-clause-none : goal.returns-clause-none
returns-clause-none c a b clash =
    let one : a % 3 ≡ b % 3 = cc clash.one in
    absurd (omega (arith, clash.rising, clash.below, one))
