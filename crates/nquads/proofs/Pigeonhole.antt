-- Numbers that differ and stand in a list are no more than it has elements.
use Rattle.std.proofs.Common.{◌≡◌, ℕ, suc, ◌≤◌, List, [], ◌∷◌, length, Bool, true, false, ◌==◌, Contains, refl, sym, ap, ◌∙◌, subst, inl, inr, arith, if◌then◌else◌}
use Rattle.std.specs.Prelude.{◌⊎◌}
use Rattle.std.proofs.lemmas.Bool.{eqb-true, eqb-false}
use Rattle.base_types.specs.Sets.{AllDiffer}
use Rattle.base_types.proofs.Lists.{Contains-nil, Contains-here, Contains-there, Contains-cons_cases}
use Rattle.nquads.proofs.ReadingElements.{AllDiffer-head, AllDiffer-tail}

-- the list without the first place of x
abbrev without : ℕ → List ℕ → List ℕ
without x [] = []
without x (y ∷ ys) = if y == x then ys else y ∷ without x ys

without_shorter : (x : ℕ) (ys : List ℕ) → Contains ys x → length ys ≡ suc (length (without x ys))
without_shorter x [] m = absurd (Contains-nil x m)
without_shorter x (y ∷ ys) m = go (y == x) refl (Contains-cons_cases y ys x m) (without_shorter x ys)
  where
    go : (b : Bool) → (y == x) ≡ b → (y ≡ x) ⊎ Contains ys x → (Contains ys x → length ys ≡ suc (length (without x ys))) → length (y ∷ ys) ≡ suc (length (without x (y ∷ ys)))
    go true e c h = rw e refl
    go false e c h = elim c [ inl s ↦ absurd (eqb-false y x e s) | inr n ↦ rw e (ap suc (h n)) ]

without_keeps : (x : ℕ) (ys : List ℕ) (z : ℕ) → (x ≡ z → ⊥) → Contains ys z → Contains (without x ys) z
without_keeps x [] z n m = absurd (Contains-nil z m)
without_keeps x (y ∷ ys) z n m = go (y == x) refl (Contains-cons_cases y ys z m) (without_keeps x ys z n)
  where
    go : (b : Bool) → (y == x) ≡ b → (y ≡ z) ⊎ Contains ys z → (Contains ys z → Contains (without x ys) z) → Contains (without x (y ∷ ys)) z
    go true e c h = rw e (elim c [ inl s ↦ absurd (n (sym (eqb-true y x e) ∙ s)) | inr k ↦ k ])
    go false e c h = rw e (elim c [ inl s ↦ subst (Contains (y ∷ without x ys)) s (Contains-here y (without x ys)) | inr k ↦ Contains-there y (without x ys) z (h k) ])

-- so many at most
pub no_more : (xs ys : List ℕ) → AllDiffer xs → ((x : ℕ) → Contains xs x → Contains ys x) → length xs ≤ length ys
no_more [] ys d h = omega arith
no_more (x ∷ xs) ys d h =
    let size = without_shorter x ys (h x (Contains-here x xs)) in
    let rest = no_more xs (without x ys) (AllDiffer-tail x xs d)
    (λ z m. without_keeps x ys z (λ (e : x ≡ z). AllDiffer-head x xs d (subst (Contains xs) (sym e) m)) (h z (Contains-there x xs z m))) in
    omega (arith, size, rest)
