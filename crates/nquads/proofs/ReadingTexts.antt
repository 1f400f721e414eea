-- Texts that are cut at the first place where a byte stands, and elements of lists.
use Rattle.std.proofs.Common.{◌≡◌, ◌≢◌, ℕ, zero, suc, List, [], ◌∷◌, ◌++◌, length, All, Contains, Bool, false, ◌==◌, refl, sym, ap, ap₂, ◌∙◌, le_of_suc-le-suc, suc-le-suc, zero-lt-suc, not-suc-le-zero}
use Rattle.std.proofs.lemmas.List.Elements.{All-head, All-tail}
use Rattle.std.proofs.lemmas.Bool.{eqb-false}

-- two texts whose first bytes differ
pub apart : (m n : ℕ) (xs ys : List ℕ) → (m == n) ≡ false → m ∷ xs ≡ n ∷ ys → ⊥
apart m n xs ys d e = let same : m ≡ n = cc in eqb-false m n d same

-- the byte does not stand in the text
abbrev pub Absent : ℕ → List ℕ → Type 0
Absent c [] = Unit {0}
Absent c (x ∷ xs) = (c ≢ x) × Absent c xs

-- a byte in neither part is not in both
pub Absent-append : (c : ℕ) (xs ys : List ℕ) → Absent c xs → Absent c ys → Absent c (xs ++ ys)
Absent-append c [] ys p q = q
Absent-append c (x ∷ xs) ys p q = (p.0, Absent-append c xs ys p.1 q)

-- where a text is cut at its first c, the parts are determined
pub cut_once : (c : ℕ) (xs ys r u : List ℕ) → Absent c xs → Absent c ys → xs ++ c ∷ r ≡ ys ++ c ∷ u → (xs ≡ ys) × (r ≡ u)
cut_once c [] [] r u p q e = (refl, cc)
cut_once c [] (y ∷ ys) r u p q e = let h : c ≡ y = cc in absurd (q.0 h)
cut_once c (x ∷ xs) [] r u p q e = let h : c ≡ x = cc in absurd (p.0 h)
cut_once c (x ∷ xs) (y ∷ ys) r u p q e =
    let head : x ≡ y = cc in
    let tail : xs ++ c ∷ r ≡ ys ++ c ∷ u = cc in
    let rest : (xs ≡ ys) × (r ≡ u) = cut_once c xs ys r u p.1 q.1 tail in
    (ap₂ (λ (k : ℕ) (ks : List ℕ). k ∷ ks) head rest.0, rest.1)

-- a byte that a test refuses is absent from a text whose bytes all pass
pub Absent-tested : (test : ℕ → Bool) (b : Bool) (c : ℕ) (xs : List ℕ) → (test c ≡ b → ⊥) → All (λ x. test x ≡ b) xs → Absent c xs
Absent-tested test b c [] n a = tt
Absent-tested test b c (x ∷ xs) n a =
    ((λ e. n (ap test e ∙ All-head (λ x. test x ≡ b) x xs a)), Absent-tested test b c xs n (All-tail (λ x. test x ≡ b) x xs a))

-- an absent byte is not contained
pub Absent-contains : (c : ℕ) (xs : List ℕ) → Absent c xs → Contains xs c → ⊥
Absent-contains c [] p m = absurd (not-suc-le-zero m.1)
Absent-contains c (x ∷ xs) p (zero, l, e) = p.0 (sym e)
Absent-contains c (x ∷ xs) p (suc k, l, e) = Absent-contains c xs p.1 (k, le_of_suc-le-suc l, e)

-- and the other way round
pub Absent-from : (c : ℕ) (xs : List ℕ) → (Contains xs c → ⊥) → Absent c xs
Absent-from c [] n = tt
Absent-from c (x ∷ xs) n =
    ((λ e. n (zero, zero-lt-suc (length xs), sym e)), Absent-from c xs (λ m. n (suc m.0, suc-le-suc m.1, m.2)))
