-- The nodes of a table field by field, and issuers over numbers.
use Rattle.std.proofs.Common.{◌≡◌, ℕ, ◌+◌, List, [], ◌∷◌, ◌++◌, length, refl, ap, subst, arith, Contains, Some, None, Bool, true, false, cond, ◌==◌, decimal}
use Rattle.std.specs.Prelude.{slice_get, codes}
use Rattle.std.specs.List.{list_any}
use Rattle.digest_mac.specs.Digests.{digits}
use Rattle.std.proofs.lemmas.Bool.Decides.{Decides-eqb, nat_tests}
use Rattle.digest_mac.specs.declared.hash.Hash.{Hash}
use Rattle.rdfc_ndegree.specs.Issuers.{has, number, canonical_id, temporary_id}
use Rattle.rdfc_ndegree.specs.Table.{numbers_below, first_in, related_in_row, table_nodes}
use Rattle.rdfc_ndegree.specs.NumberIssuers.{number_in, place_in}
use Rattle.rdfc_ndegree.specs.Table.{NodeRow}
use Rattle.rdfc_ndegree.proofs.PrefixesAndPairs.{list_any-none}
use Rattle.std.proofs.lemmas.Bool.{false_from_ne_true}

module _ (algorithm : Hash) (rows : List NodeRow) where
  pub table-all : (table_nodes algorithm rows).all ≡ numbers_below (length rows)
  unfolding table_nodes
  table-all = refl

  pub table-same : (table_nodes algorithm rows).same ≡ ◌==◌
  unfolding table_nodes
  table-same = refl

  pub table-digest : (table_nodes algorithm rows).digest ≡ digits algorithm
  unfolding table_nodes
  table-digest = refl

  pub table-first : (n : ℕ) → (table_nodes algorithm rows).first n ≡ first_in (slice_get rows n)
  unfolding table_nodes
  table-first n = refl

  pub table-related : (n : ℕ) → (table_nodes algorithm rows).related n ≡ related_in_row (slice_get rows n)
  unfolding table_nodes
  table-related n = refl

  pub table-has : (c : List ℕ) (n : ℕ) → has (table_nodes algorithm rows) c n ≡ list_any (λ m. m == n) c
  unfolding table_nodes
  table-has c n = refl

  pub table-number : (c : List ℕ) (n : ℕ) → number (table_nodes algorithm rows) c n ≡ number_in c n
  unfolding table_nodes
  table-number [] n = refl
  table-number (m ∷ ms) n = let rest = table-number ms n in λ i. cond (m == n) 0 (1 + rest i)

  pub table-canonical_id : (c : List ℕ) (n : ℕ) → canonical_id (table_nodes algorithm rows) c n ≡ codes "c14n" ++ decimal (number_in c n)
  table-canonical_id c n = ap (λ k. codes "c14n" ++ decimal k) (table-number c n)

  pub table-temporary_id : (i : List ℕ) (n : ℕ) → temporary_id (table_nodes algorithm rows) i n ≡ codes "b" ++ decimal (number_in i n)
  table-temporary_id i n = ap (λ k. codes "b" ++ decimal k) (table-number i n)

-- ---- places

-- a number without a place is not listed
pub place-none : (xs : List ℕ) (n : ℕ) → place_in xs n ≡ None → list_any (λ m. m == n) xs ≡ false
place-none xs n e = go (list_any (λ m. m == n) xs) refl
  where
    go : (b : Bool) → list_any (λ m. m == n) xs ≡ b → list_any (λ m. m == n) xs ≡ false
    go false is = is
    go true is = let made : place_in xs n ≡ Some (number_in xs n) = rw is refl in absurd (cc)

-- a number with a place is listed, and the place is its number in the issuer
pub place-some : (xs : List ℕ) (n k : ℕ) → place_in xs n ≡ Some k → (list_any (λ m. m == n) xs ≡ true) × (k ≡ number_in xs n)
place-some xs n k e = go (list_any (λ m. m == n) xs) refl
  where
    go : (b : Bool) → list_any (λ m. m == n) xs ≡ b → (list_any (λ m. m == n) xs ≡ true) × (k ≡ number_in xs n)
    go false is = let made : place_in xs n ≡ None = rw is refl in absurd (cc)
    go true is = let made : place_in xs n ≡ Some (number_in xs n) = rw is refl in (is, cc)

-- the number of what is not listed is the length
pub number-absent : (xs : List ℕ) (n : ℕ) → list_any (λ m. m == n) xs ≡ false → number_in xs n ≡ length xs
number-absent [] n e = refl
number-absent (x ∷ xs) n e = grind (arith, nat_tests, number-absent xs n)

-- what is not contained is not found
pub absent-any : (xs : List ℕ) (n : ℕ) → (Contains xs n → ⊥) → list_any (λ m. m == n) xs ≡ false
absent-any xs n absent = list_any-none (λ m. m == n) xs (λ m k. false_from_ne_true (m == n) (λ e. absent (subst (Contains xs) ((Decides-eqb m n).0 e) k)))
