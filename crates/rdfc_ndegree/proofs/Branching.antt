-- `branches` are the arrangements of a group: each distinct sequence of the members, once.
use Rattle.std.proofs.Common.{◌≡◌, ℕ, zero, suc, ◌+◌, ◌<◌, List, [], ◌∷◌, map, length, filter, Contains, Bool, true, false, not, cond, count_by, refl, sym, ap, ◌∙◌, subst, ⊎_elim, ◌↔◌, arith}
use Rattle.std.proofs.lemmas.Bool.{false≢true}
use Rattle.std.proofs.lemmas.List.Sums.{sum_by-cons}
use Rattle.std.proofs.lemmas.List.Kept.{AllPairs-filter}
use Rattle.std.proofs.lemmas.List.Sorted.{IsPermutation-refl, IsPermutation-sym, IsPermutation-trans, IsPermutation-cons, IsPermutation-middle, length_permutation, Contains-permutation, sum_by-IsPermutation}
use Rattle.std.specs.Prelude.{◌≢◌, IsPermutation}
use Rattle.std.specs.List.{flat_map}
use Rattle.base_types.specs.Sets.{AllDiffer}
use Rattle.base_types.proofs.Lists.{Contains-here, Contains-there, Contains-cons_cases, Contains-nil, Contains-map, Contains-from_map, Contains-flat_map, Contains-from_flat_map}
use Rattle.nquads.specs.FirstDegree.{each_once}
use Rattle.nquads.proofs.ReadingElements.{AllDiffer-nil, AllDiffer-cons, AllDiffer-head, AllDiffer-tail, AllDiffer-map}
use Rattle.rdfc_ndegree.specs.Nodes.{Nodes}
use Rattle.rdfc_ndegree.specs.Internal.Nodes.{AreNodes}
use Rattle.rdfc_ndegree.specs.NDegree.{AreArrangements}
use Rattle.rdfc_ndegree.proofs.Branches.{drop_one, branches}
use Rattle.rdfc_ndegree.proofs.Membership.{Contains-filter, Contains-from_filter, AllDiffer-append}

module _ {B : Type 0} (same : B → B → Bool) (equal : (x y : B) → (same x y ≡ true) ↔ (x ≡ y)) where
  itself : (x : B) → same x x ≡ true
  itself x = (equal x x).1 refl

  -- ---- the distinct elements of a list

  pub each_once-from : (xs : List B) (x : B) → Contains (each_once same xs) x → Contains xs x
  each_once-from [] x m = m
  each_once-from (y ∷ ys) x m =
      ⊎_elim (λ e. subst (Contains (y ∷ ys)) e (Contains-here y ys))
      (λ n. Contains-there y ys x (each_once-from ys x (Contains-from_filter (λ z. not (same y z)) (each_once same ys) x n).0))
      (Contains-cons_cases y (filter (λ z. not (same y z)) (each_once same ys)) x m)

  pub each_once-has : (xs : List B) (x : B) → Contains xs x → Contains (each_once same xs) x
  each_once-has [] x m = m
  each_once-has (y ∷ ys) x m = go (same y x) refl (each_once-has ys x)
    where
      rest : List B
      rest = filter (λ z. not (same y z)) (each_once same ys)

      go : (b : Bool) → same y x ≡ b → (Contains ys x → Contains (each_once same ys) x) → Contains (y ∷ filter (λ z. not (same y z)) (each_once same ys)) x
      go true e h = subst (Contains (y ∷ filter (λ z. not (same y z)) (each_once same ys))) ((equal y x).0 e) (Contains-here y (filter (λ z. not (same y z)) (each_once same ys)))
      go false e h =
          ⊎_elim (λ s. absurd (false≢true (sym e ∙ (equal y x).1 s)))
          (λ n. Contains-there y (filter (λ z. not (same y z)) (each_once same ys)) x (Contains-filter (λ z. not (same y z)) (each_once same ys) x (h n) (ap not e)))
          (Contains-cons_cases y ys x m)

  pub each_once-differ : (xs : List B) → AllDiffer (each_once same xs)
  each_once-differ [] = AllDiffer-nil
  each_once-differ (y ∷ ys) =
      AllDiffer-cons y (filter (λ z. not (same y z)) (each_once same ys))
      (λ m. false≢true (sym (ap not (itself y)) ∙ (Contains-from_filter (λ z. not (same y z)) (each_once same ys) y m).1))
      (AllPairs-filter (λ a b. a ≢ b) (λ z. not (same y z)) (each_once same ys) (each_once-differ ys))

  -- ---- a list with one element taken out

  pub without-permutation : (xs : List B) (x : B) → Contains xs x → IsPermutation xs (x ∷ drop_one same x xs)
  without-permutation [] x m = absurd (Contains-nil x m)
  without-permutation (y ∷ ys) x m = go (same x y) refl (without-permutation ys x)
    where
      go : (b : Bool) → same x y ≡ b → (Contains ys x → IsPermutation ys (x ∷ drop_one same x ys)) → IsPermutation (y ∷ ys) (x ∷ cond b ys (y ∷ drop_one same x ys))
      go true e h = subst (λ z. IsPermutation (y ∷ ys) (z ∷ ys)) (sym ((equal x y).0 e)) (IsPermutation-refl (y ∷ ys))
      go false e h =
          ⊎_elim (λ s. absurd (false≢true (sym e ∙ (equal x y).1 (sym s))))
          (λ n. IsPermutation-trans (y ∷ ys) (y ∷ (x ∷ drop_one same x ys)) (x ∷ (y ∷ drop_one same x ys)) (IsPermutation-cons y ys (x ∷ drop_one same x ys) (h n)) (IsPermutation-middle (y ∷ []) x (drop_one same x ys)))
          (Contains-cons_cases y ys x m)

  -- ---- counts

  times : B → List B → ℕ
  times x ys = count_by (same x) ys

  times-cons : (x y : B) (ys : List B) → times x (y ∷ ys) ≡ cond (same x y) 1 0 + times x ys
  unfolding times
  times-cons x y ys = sum_by-cons (λ z. cond (same x z) 1 0) y ys

  times-head : (x : B) (ys : List B) → 0 < times x (x ∷ ys)
  times-head x ys = let a = times-cons x x ys in let b : cond {A = ℕ} (same x x) 1 0 ≡ 1 = ap (λ (t : Bool). cond {A = ℕ} t 1 0) (itself x) in omega arith

  times-some : (x : B) (ys : List B) → 0 < times x ys → Contains ys x
  unfolding times
  times-some x [] l = absurd (omega arith)
  times-some x (y ∷ ys) l = go (same x y) refl (times-some x ys)
    where
      go : (b : Bool) → same x y ≡ b → (0 < times x ys → Contains ys x) → Contains (y ∷ ys) x
      go true e h = subst (Contains (y ∷ ys)) (sym ((equal x y).0 e)) (Contains-here y ys)
      go false e h = let a = times-cons x y ys in let b : cond {A = ℕ} (same x y) 1 0 ≡ 0 = ap (λ (t : Bool). cond {A = ℕ} t 1 0) e in Contains-there y ys x (h (omega arith))

  times-permutation : (x : B) (ys zs : List B) → IsPermutation ys zs → times x zs ≡ times x ys
  unfolding times
  times-permutation x ys zs p = sum_by-IsPermutation (λ z. cond (same x z) 1 0) ys zs p

  from_times : (xs ys : List B) → ((x : B) → times x xs ≡ times x ys) → IsPermutation xs ys
  from_times [] [] h = IsPermutation-refl []
  from_times [] (y ∷ ys) h = absurd (Contains-nil y (times-some y [] (let a = h y in let b = times-head y ys in omega arith)))
  from_times (x ∷ xs) ys h =
      let found : Contains ys x = times-some x ys (let a = h x in let b = times-head x xs in omega arith) in
      let moved : IsPermutation ys (x ∷ drop_one same x ys) = without-permutation ys x found in
      let rest : (z : B) → times z xs ≡ times z (drop_one same x ys) = λ z.
      let a = h z in let b = times-cons z x xs in let c = times-cons z x (drop_one same x ys) in let d = times-permutation z ys (x ∷ drop_one same x ys) moved in omega arith in
      IsPermutation-trans (x ∷ xs) (x ∷ drop_one same x ys) ys (IsPermutation-cons x xs (drop_one same x ys) (from_times xs (drop_one same x ys) rest)) (IsPermutation-sym ys (x ∷ drop_one same x ys) moved)

  pub IsPermutation-uncons : (x : B) (xs ys : List B) → IsPermutation (x ∷ xs) (x ∷ ys) → IsPermutation xs ys
  IsPermutation-uncons x xs ys p =
      from_times xs ys (λ z. let a = times-permutation z (x ∷ xs) (x ∷ ys) p in let b = times-cons z x xs in let c = times-cons z x ys in omega arith)

  -- ---- the sequences

  fronted : ℕ → List B → B → List (List B)
  fronted n left m = map (λ p. m ∷ p) (branches same n (drop_one same m left))

  empty : {X : Type 0} (xs : List X) → length xs ≡ 0 → xs ≡ []
  empty [] e = refl
  empty (x ∷ xs) e = absurd (omega arith)

  shorter : (n : ℕ) (left : List B) (m : B) → length left ≡ suc n → IsPermutation left (m ∷ drop_one same m left) → length (drop_one same m left) ≡ n
  shorter n left m e p = let a : suc (length (drop_one same m left)) ≡ length left = length_permutation left (m ∷ drop_one same m left) p in omega arith

  pub branches-only : (n : ℕ) (left : List B) (p : List B) → length left ≡ n → Contains (branches same n left) p → IsPermutation left p
  branches-only zero left p e c =
      ⊎_elim (λ s. subst (λ l. IsPermutation l p) (sym (empty left e)) (subst (IsPermutation []) s (IsPermutation-refl []))) (λ k. absurd (Contains-nil p k)) (Contains-cons_cases [] [] p c)
  branches-only (suc n) left p e c =
      let found = Contains-from_flat_map (λ m. map (λ q. m ∷ q) (branches same n (drop_one same m left))) (each_once same left) p c in
      let m : B = found.0 in
      let tail = Contains-from_map (λ (q : List B). m ∷ q) (branches same n (drop_one same m left)) p found.2 in
      let moved : IsPermutation left (m ∷ drop_one same m left) = without-permutation left m (each_once-from left m found.1) in
      let rest : IsPermutation (drop_one same m left) tail.0 = branches-only n (drop_one same m left) tail.0 (shorter n left m e moved) tail.1 in
      subst (IsPermutation left) tail.2 (IsPermutation-trans left (m ∷ drop_one same m left) (m ∷ tail.0) moved (IsPermutation-cons m (drop_one same m left) tail.0 rest))

  pub branches-every : (n : ℕ) (left : List B) (p : List B) → length left ≡ n → IsPermutation left p → Contains (branches same n left) p
  branches-every zero left p e c =
      subst (Contains ([] ∷ [])) (sym (empty p (length_permutation left p c ∙ e))) (Contains-here [] [])
  branches-every (suc n) left [] e c = let a : 0 ≡ length left = length_permutation left [] c in absurd (omega arith)
  branches-every (suc n) left (m ∷ p) e c =
      let inside : Contains left m = Contains-permutation (m ∷ p) left m (IsPermutation-sym left (m ∷ p) c) (Contains-here m p) in
      let moved : IsPermutation left (m ∷ drop_one same m left) = without-permutation left m inside in
      let rest : IsPermutation (drop_one same m left) p = IsPermutation-uncons m (drop_one same m left) p (IsPermutation-trans (m ∷ drop_one same m left) left (m ∷ p) (IsPermutation-sym left (m ∷ drop_one same m left) moved) c) in
      Contains-flat_map (λ k. map (λ q. k ∷ q) (branches same n (drop_one same k left))) (each_once same left) m (m ∷ p) (each_once-has left m inside)
      (Contains-map (λ (q : List B). m ∷ q) (branches same n (drop_one same m left)) p (branches-every n (drop_one same m left) p (shorter n left m e moved) rest))

  heads_same : (m k : B) (p q : List B) → m ∷ p ≡ k ∷ q → m ≡ k
  heads_same m k p q e = cc

  tails_same : (m k : B) (p q : List B) → m ∷ p ≡ k ∷ q → p ≡ q
  tails_same m k p q e = cc

  differ_along : (next : B → List (List B)) → ((m : B) → AllDiffer (next m)) → (ms : List B) → AllDiffer ms → AllDiffer (flat_map (λ m. map (λ q. m ∷ q) (next m)) ms)
  differ_along next each [] d = AllDiffer-nil
  differ_along next each (m ∷ ms) d =
      AllDiffer-append (map (λ q. m ∷ q) (next m)) (flat_map (λ k. map (λ q. k ∷ q) (next k)) ms)
      (AllDiffer-map (λ q. m ∷ q) (next m) (λ p q a b e. tails_same m m p q e) (each m))
      (differ_along next each ms (AllDiffer-tail m ms d))
      (λ p a b.
      let first = Contains-from_map (λ (q : List B). m ∷ q) (next m) p a in
      let later = Contains-from_flat_map (λ k. map (λ q. k ∷ q) (next k)) ms p b in
      let second = Contains-from_map (λ (q : List B). later.0 ∷ q) (next later.0) p later.2 in
      let one : later.0 ≡ m = heads_same later.0 m second.0 first.0 (second.2 ∙ sym first.2) in
      AllDiffer-head m ms d (subst (Contains ms) one later.1))

  pub branches-differ : (n : ℕ) (left : List B) → AllDiffer (branches same n left)
  branches-differ zero left = AllDiffer-cons [] [] (λ m. Contains-nil [] m) AllDiffer-nil
  branches-differ (suc n) left = differ_along (λ m. branches same n (drop_one same m left)) (λ m. branches-differ n (drop_one same m left)) (each_once same left) (each_once-differ left)

-- the branches of all members are their arrangements: each distinct sequence, once
pub branches-are : {B : Type 0} {v : Nodes B} → AreNodes v → (members : List B) → AreArrangements members (branches v.same (length members) members)
branches-are {B} {v} laws members = record {
  differ = branches-differ v.same laws.equal (length members) members;
  exact = λ p. (branches-only v.same laws.equal (length members) members p refl, branches-every v.same laws.equal (length members) members p refl);
}

-- every sequence of the members is one of the arrangements, the members themselves too
pub arrangements-some : {B : Type 0} {members : List B} {ps : List (List B)} → AreArrangements members ps → Contains ps members
arrangements-some {B} {members} {ps} all = (all.exact members).1 (IsPermutation-refl members)

-- an arrangement has the members and no other
pub arrangement-member : {B : Type 0} {members : List B} {ps : List (List B)} → AreArrangements members ps → (p : List B) (m : B) → Contains ps p → Contains p m → Contains members m
arrangement-member {B} {members} {ps} all p m k l = Contains-permutation p members m (IsPermutation-sym members p ((all.exact p).0 k)) l
