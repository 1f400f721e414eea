-- Results in hash order, and the ties that neighbours show.
use Rattle.std.proofs.Common.{◌≡◌, ℕ, suc, ◌+◌, List, [], ◌∷◌, get_or, All, Bool, true, false, ◌||◌, bytes_eq, refl, sym, ap, ◌∙◌, subst, arith}
use Rattle.std.specs.List.{AllByRecursion, AllZip, list_any}
use Rattle.std.specs.List.Sorted.{IsSortedByKey}
use Rattle.std.specs.Cmp.Lexicographic.{nat_list_cmp_total}
use Rattle.std.specs.Ordering.{is_lt}
use Rattle.std.proofs.lemmas.Bool.{false≢true, or_from, false_from_ne_true}
use Rattle.std.proofs.lemmas.List.Elements.{All-from_recursion, recursion_from_All}
use Rattle.std.proofs.lemmas.List.Sorted.{sorted_far, ranks_by}
use Rattle.base_types.specs.Order.{is_upto}
use Rattle.base_types.proofs.Orders.{text_cmp, is_upto-antisymmetric, upto_if, bytes_eq-true, bytes_eq-same}
use Rattle.rdfc_ndegree.specs.NDegree.{Outcome}
use Rattle.rdfc_ndegree.specs.Run.{InHashOrder, results_tie}
use Rattle.rdfc_ndegree.specs.declared.path.NodePath.{NodePath}
use Rattle.rdfc_canon.specs.Internal.Numbering.{IsPathOf, next_has, neighbours_tie}

-- each path's hash is up to those after it
abbrev pub Up : List NodePath → Type 0
Up [] = Unit {0}
Up (p ∷ ps) = AllByRecursion (λ (q : NodePath). is_upto p.hash q.hash ≡ true) ps × Up ps

each_upto : (p : NodePath) (ps : List NodePath) → AllByRecursion (λ (q : NodePath). is_lt (text_cmp q.hash p.hash) ≡ false) ps → AllByRecursion (λ (q : NodePath). is_upto p.hash q.hash ≡ true) ps
each_upto p [] all = tt
each_upto p (q ∷ qs) all = (upto_if p.hash q.hash all.0, each_upto p qs all.1)

next : (p : NodePath) (ps : List NodePath) (k : ℕ) (d : NodePath) → get_or (p ∷ ps) (suc k + 1) d ≡ get_or ps (k + 1) d
next p ps k d = let e : suc k + 1 ≡ suc (k + 1) = omega arith in ap (λ n. get_or (p ∷ ps) n d) e

-- a list sorted by hash goes up from each to the next
pub Up-from_sorted : (ps : List NodePath) → IsSortedByKey (λ (p : NodePath). p.hash) text_cmp ps → Up ps
Up-from_sorted [] up = tt
Up-from_sorted (p ∷ ps) up =
    let far : All (λ (q : NodePath). is_lt (text_cmp q.hash p.hash) ≡ false) ps = λ k d in'. sorted_far (λ (x y : NodePath). is_lt (text_cmp x.hash y.hash)) (ranks_by nat_list_cmp_total (λ (x : NodePath). x.hash)) (p ∷ ps) up 0 (suc k) d (omega arith) (omega arith) in
    (each_upto p ps (recursion_from_All (λ (q : NodePath). is_lt (text_cmp q.hash p.hash) ≡ false) ps far), Up-from_sorted ps (λ k d low high. subst (λ (x : NodePath). is_lt (text_cmp x.hash (get_or ps k d).hash) ≡ false) (next p ps k d) (up (suc k) d (omega arith) (omega arith))))

carried : (h l : List ℕ) → h ≡ l → (ps : List NodePath) (os : List (Outcome ℕ)) → AllZip IsPathOf ps os → AllByRecursion (λ (q : NodePath). is_upto h q.hash ≡ true) ps → AllByRecursion (λ (o : Outcome ℕ). is_upto l o.hash ≡ true) os
carried h l e [] [] z all = tt
carried h l e [] (o ∷ os) z all = absurd z
carried h l e (p ∷ ps) [] z all = absurd z
carried h l e (p ∷ ps) (o ∷ os) z all = (subst (λ t. is_upto t o.hash ≡ true) e (subst (λ t. is_upto h t ≡ true) z.0.hash all.0), carried h l e ps os z.1 all.1)

-- outcomes of paths that go up are in hash order
pub order-from_Up : (ps : List NodePath) (os : List (Outcome ℕ)) → AllZip IsPathOf ps os → Up ps → InHashOrder os
order-from_Up [] [] z up = tt
order-from_Up [] (o ∷ os) z up = absurd z
order-from_Up (p ∷ ps) [] z up = absurd z
order-from_Up (p ∷ ps) (o ∷ os) z up = (All-from_recursion (λ (q : Outcome ℕ). is_upto o.hash q.hash ≡ true) os (carried p.hash o.hash z.0.hash ps os z.1 up.0), order-from_Up ps os z.1 up.1)

-- where the next hash is another, it comes after, and so do all later ones
none_later : (h l : List ℕ) → bytes_eq l h ≡ false → is_upto h l ≡ true → (ps : List NodePath) (os : List (Outcome ℕ)) → AllZip IsPathOf ps os → AllByRecursion (λ (q : NodePath). is_upto l q.hash ≡ true) ps → list_any (λ (o : Outcome ℕ). bytes_eq o.hash h) os ≡ false
none_later h l apart upto [] [] z all = refl
none_later h l apart upto [] (o ∷ os) z all = absurd z
none_later h l apart upto (p ∷ ps) [] z all = absurd z
none_later h l apart upto (p ∷ ps) (o ∷ os) z all =
    or_from (bytes_eq o.hash h) (list_any (λ (q : Outcome ℕ). bytes_eq q.hash h) os)
    (false_from_ne_true (bytes_eq o.hash h) (λ e.
    let back : is_upto l h ≡ true = subst (λ t. is_upto l t ≡ true) (z.0.hash ∙ bytes_eq-true o.hash h e) all.0 in
    false≢true (sym apart ∙ bytes_eq-same l h (is_upto-antisymmetric l h back upto))))
    (none_later h l apart upto ps os z.1 all.1)

next_is : (h : List ℕ) (ps : List NodePath) (os : List (Outcome ℕ)) → AllZip IsPathOf ps os → AllByRecursion (λ (q : NodePath). is_upto h q.hash ≡ true) ps → Up ps → next_has h ps ≡ list_any (λ (o : Outcome ℕ). bytes_eq o.hash h) os
next_is h [] [] z all up = refl
next_is h [] (o ∷ os) z all up = absurd z
next_is h (p ∷ ps) [] z all up = absurd z
next_is h (p ∷ ps) (o ∷ os) z all up = go (bytes_eq p.hash h) refl
  where
    same : bytes_eq p.hash h ≡ bytes_eq o.hash h
    same = ap (λ t. bytes_eq t h) z.0.hash

    go : (b : Bool) → bytes_eq p.hash h ≡ b → bytes_eq p.hash h ≡ (bytes_eq o.hash h || list_any (λ (q : Outcome ℕ). bytes_eq q.hash h) os)
    go true e = e ∙ ap (λ b. b || list_any (λ (q : Outcome ℕ). bytes_eq q.hash h) os) (sym e ∙ same)
    go false e = e ∙ sym (or_from (bytes_eq o.hash h) (list_any (λ (q : Outcome ℕ). bytes_eq q.hash h) os) (sym same ∙ e) (none_later h p.hash e all.0 ps os z.1 up.0))

-- of sorted results two tie exactly where neighbours do
pub neighbours-results : (ps : List NodePath) (os : List (Outcome ℕ)) → AllZip IsPathOf ps os → Up ps → neighbours_tie ps ≡ results_tie os
neighbours-results [] [] z up = refl
neighbours-results [] (o ∷ os) z up = absurd z
neighbours-results (p ∷ ps) [] z up = absurd z
neighbours-results (p ∷ ps) (o ∷ os) z up =
    let later : next_has p.hash ps ≡ list_any (λ (q : Outcome ℕ). bytes_eq q.hash o.hash) os = next_is p.hash ps os z.1 up.0 up.1 ∙ ap (λ h. list_any (λ (q : Outcome ℕ). bytes_eq q.hash h) os) z.0.hash in
    let rest = neighbours-results ps os z.1 up.1 in
    λ i. z.0.tie i || later i || rest i
