-- The bytes of one character: below 128 it is its one byte, and above it has no byte below 128.
use Rattle.std.proofs.Common.{◌≡◌, ℕ, ◌+◌, ◌≤◌, ◌/◌, [], ◌∷◌, refl, arith, true, false, cond, ltb}
use Rattle.std.specs.List.{AllByRecursion}
use lib.Utf8.{encode, next}

-- a character past ASCII has no byte of ASCII
pub encode-wide : (c : ℕ) → ltb c 128 ≡ false → AllByRecursion (λ b. 128 ≤ b) (encode c)
unfolding encode
encode-wide c e =
    let two : AllByRecursion (λ b. 128 ≤ b) ((192 + c / 64) ∷ next c ∷ []) = (omega arith, (omega arith, tt)) in
    let three : AllByRecursion (λ b. 128 ≤ b) ((224 + c / 4096) ∷ next (c / 64) ∷ next c ∷ []) = (omega arith, (omega arith, (omega arith, tt))) in
    let four : AllByRecursion (λ b. 128 ≤ b) ((240 + c / 262144) ∷ next (c / 4096) ∷ next (c / 64) ∷ next c ∷ []) = (omega arith, (omega arith, (omega arith, (omega arith, tt)))) in
    rw e (elim (ltb c 2048) as (λ t. AllByRecursion (λ b. 128 ≤ b) (cond t ((192 + c / 64) ∷ next c ∷ []) (cond (ltb c 65536) ((224 + c / 4096) ∷ next (c / 64) ∷ next c ∷ []) ((240 + c / 262144) ∷ next (c / 4096) ∷ next (c / 64) ∷ next c ∷ []))))
    [ true ↦ two | false ↦ elim (ltb c 65536) as (λ t. AllByRecursion (λ b. 128 ≤ b) (cond t ((224 + c / 4096) ∷ next (c / 64) ∷ next c ∷ []) ((240 + c / 262144) ∷ next (c / 4096) ∷ next (c / 64) ∷ next c ∷ []))) [ true ↦ three | false ↦ four ] ])

-- a character of ASCII is its one byte
pub encode-narrow : (c : ℕ) → ltb c 128 ≡ true → encode c ≡ c ∷ []
unfolding encode
encode-narrow c e = rw e refl
