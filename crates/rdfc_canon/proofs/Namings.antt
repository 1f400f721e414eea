-- Naming numbers in the canonical issuer is what the definition's issuer does.
use Rattle.std.proofs.Common.{◌≡◌, ℕ, ◌==◌, List, [], ◌∷◌, ◌++◌, length, false, cond, refl, sym, ap, ◌∙◌, subst, arith, append-nil, append_assoc}
use Rattle.std.specs.List.{AllZip, list_any}
use Rattle.std.proofs.lemmas.List.Elements.{Contains-append_left}
use Rattle.std.proofs.lemmas.List.Sorted.{IsPermutation-middle}
use Rattle.base_types.specs.Sets.{AllDiffer}
use Rattle.digest_mac.specs.declared.hash.Hash.{Hash}
use Rattle.nquads.proofs.ReadingElements.{AllDiffer-head}
use Rattle.rdfc_ndegree.specs.Groups.{Group}
use Rattle.rdfc_ndegree.specs.NDegree.{Outcome}
use Rattle.rdfc_ndegree.specs.Run.{alone, if_alone, first_groups, take_issuer, take_issuers}
use Rattle.rdfc_ndegree.specs.Table.{table_nodes}
use Rattle.rdfc_ndegree.specs.declared.path.NodePath.{NodePath}
use Rattle.rdfc_ndegree.specs.Table.{NodeRow}
use Rattle.rdfc_ndegree.proofs.Permutations.{AllDiffer-permutation}
use Rattle.rdfc_ndegree.proofs.Labels.{alone-differ}
use Rattle.rdfc_ndegree.proofs.Tables.{absent-any}
use Rattle.rdfc_ndegree.specs.NumberIssuers.{issue_number}
use Rattle.rdfc_ndegree.specs.Internal.Issuing.{issue_numbers}
use Rattle.rdfc_canon.specs.Internal.Numbering.{issue_paths, IsPathOf}

module _ (algorithm : Hash) (rows : List NodeRow) where
  pub name_all-take : (c ns : List ℕ) → issue_numbers c ns ≡ take_issuer (table_nodes algorithm rows) c ns
  unfolding table_nodes
  name_all-take c [] = refl
  name_all-take c (n ∷ ns) = name_all-take (issue_number c n) ns

  pub name_each-take : (c : List ℕ) (ps : List NodePath) (os : List (Outcome ℕ)) → AllZip IsPathOf ps os → issue_paths c ps ≡ take_issuers (table_nodes algorithm rows) c os
  name_each-take c [] [] z = refl
  name_each-take c [] (o ∷ os) z = absurd z
  name_each-take c (p ∷ ps) [] z = absurd z
  name_each-take c (p ∷ ps) (o ∷ os) z =
      ap (λ d. issue_paths d ps) (ap (issue_numbers c) z.0.issuer ∙ name_all-take c o.issuer)
      ∙ name_each-take (take_issuer (table_nodes algorithm rows) c o.issuer) ps os z.1

-- numbers issued for two lists are issued for the first and then for the second
pub name_all-append : (c xs ys : List ℕ) → issue_numbers c (xs ++ ys) ≡ issue_numbers (issue_numbers c xs) ys
name_all-append c [] ys = refl
name_all-append c (x ∷ xs) ys = name_all-append (issue_number c x) xs ys

-- numbers that differ are named as they come
pub name_all-differ : (c ns : List ℕ) → AllDiffer (c ++ ns) → issue_numbers c ns ≡ c ++ ns
name_all-differ c [] a = sym (append-nil c)
name_all-differ c (n ∷ ns) a =
    let front : AllDiffer (n ∷ (c ++ ns)) = AllDiffer-permutation (c ++ n ∷ ns) (n ∷ (c ++ ns)) (IsPermutation-middle c n ns) a in
    let none : list_any (λ m. m == n) c ≡ false = absent-any c n (λ k. AllDiffer-head n (c ++ ns) front (Contains-append_left c ns n k)) in
    let moved : (c ++ n ∷ []) ++ ns ≡ c ++ n ∷ ns = append_assoc c (n ∷ []) ns in
    ap (λ b. issue_numbers (cond b c (c ++ n ∷ [])) ns) none ∙ name_all-differ (c ++ n ∷ []) ns (subst AllDiffer (sym moved) a) ∙ moved

-- the nodes with a hash of their own are issued in hash order, each once
pub alone-named : (algorithm : Hash) (rows : List NodeRow) (gs : List (Group ℕ)) → gs ≡ first_groups (table_nodes algorithm rows) → issue_numbers [] (alone gs) ≡ alone (first_groups (table_nodes algorithm rows))
alone-named algorithm rows gs e = ap (λ hs. issue_numbers [] (alone hs)) e ∙ name_all-differ [] (alone (first_groups (table_nodes algorithm rows))) (alone-differ (table_nodes algorithm rows))

-- the members of a group of one, and of any other
pub alone-one : (c : List ℕ) (ms : List ℕ) (rest : List ℕ) → length ms ≡ 1 → issue_numbers c (if_alone ms ++ rest) ≡ issue_numbers (issue_numbers c ms) rest
alone-one c [] rest e = absurd (omega arith)
alone-one c (m ∷ []) rest e = refl
alone-one c (m ∷ (n ∷ ns)) rest e = absurd (omega arith)

-- a group that is not of one member adds nothing
pub alone-other : (ms : List ℕ) (rest : List ℕ) → (length ms == 1) ≡ false → if_alone ms ++ rest ≡ rest
alone-other [] rest e = refl
alone-other (m ∷ []) rest e = absurd (cc)
alone-other (m ∷ (n ∷ ns)) rest e = refl
