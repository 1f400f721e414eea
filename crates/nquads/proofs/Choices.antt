-- One of another list for each element of a list.
use Rattle.std.proofs.Common.{◌≡◌, suc, List, [], ◌∷◌, length, All, Contains, refl, ap, subst, inl, inr}
use Rattle.std.specs.List.{AllZip}
use Rattle.std.proofs.lemmas.List.Elements.{All-nil, All-cons, All-head, All-tail}
use Rattle.base_types.specs.Sets.{AllDiffer}
use Rattle.base_types.proofs.Lists.{Contains-nil, Contains-here, Contains-there, Contains-cons_cases}
use Rattle.nquads.proofs.ReadingElements.{AllDiffer-nil, AllDiffer-head, AllDiffer-tail, AllDiffer-cons}

module _ {X Y : Type 0} (R : X → Y → Type 0) where
  -- a choice for each
  pub choose : (xs : List X) → All (λ x. (y : Y) × R x y) xs → (ys : List Y) × AllZip R xs ys
  choose [] a = ([], tt)
  choose (x ∷ xs) a =
      let h = All-head (λ x. (y : Y) × R x y) x xs a in
      let r = choose xs (All-tail (λ x. (y : Y) × R x y) x xs a) in
      (h.0 ∷ r.0, (h.1, r.1))

  -- as many
  pub zip_length : (xs : List X) (ys : List Y) → AllZip R xs ys → length xs ≡ length ys
  zip_length [] [] z = refl
  zip_length [] (y ∷ ys) z = absurd z
  zip_length (x ∷ xs) [] z = absurd z
  zip_length (x ∷ xs) (y ∷ ys) z = ap suc (zip_length xs ys z.1)

  -- each is the choice of one
  pub zip_contains : (xs : List X) (ys : List Y) (y : Y) → AllZip R xs ys → Contains ys y → (x : X) × Contains xs x × R x y
  zip_contains [] [] y z m = absurd (Contains-nil y m)
  zip_contains [] (w ∷ ws) y z m = absurd z
  zip_contains (x ∷ xs) [] y z m = absurd z
  zip_contains (x ∷ xs) (w ∷ ws) y z m =
      elim (Contains-cons_cases w ws y m) [
        | inl e ↦ (x, Contains-here x xs, subst (R x) e z.0)
        | inr n ↦ let r = zip_contains xs ws y z.1 n in (r.0, Contains-there x xs r.0 r.1, r.2)
      ]

  -- what differs has choices that differ, where a choice tells of what it is one
  pub zip_differ : ((x w : X) (y : Y) → R x y → R w y → x ≡ w) → (xs : List X) (ys : List Y) → AllZip R xs ys → AllDiffer xs → AllDiffer ys
  zip_differ o [] [] z d = AllDiffer-nil
  zip_differ o [] (y ∷ ys) z d = absurd z
  zip_differ o (x ∷ xs) [] z d = absurd z
  zip_differ o (x ∷ xs) (y ∷ ys) z d =
      AllDiffer-cons y ys
      (λ m. let r = zip_contains xs ys y z.1 m in
      AllDiffer-head x xs d (subst (Contains xs) (o r.0 x y r.2 z.0) r.1))
      (zip_differ o xs ys z.1 (AllDiffer-tail x xs d))

  -- what holds of each choice
  pub zip_all : (P : Y → Type 0) → ((x : X) (y : Y) → R x y → P y) → (xs : List X) (ys : List Y) → AllZip R xs ys → All P ys
  zip_all P h [] [] z = All-nil P
  zip_all P h [] (y ∷ ys) z = absurd z
  zip_all P h (x ∷ xs) [] z = absurd z
  zip_all P h (x ∷ xs) (y ∷ ys) z = All-cons P y ys (h x y z.0) (zip_all P h xs ys z.1)
