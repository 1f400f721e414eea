-- Numbers that rise, each less than all after it, are in the strict order of numbers.
use Rattle.std.proofs.Common.{◌≡◌, ℕ, true, List, [], ◌∷◌, refl, sym, ap, ◌∙◌, arith}
use Rattle.std.specs.Prelude.{nat_lt}
use Rattle.std.specs.Ordering.{nat_cmp, is_lt}
use Rattle.std.specs.declared.cmp.Ordering.TheVariants.{Less}
use Rattle.std.specs.List.{AllByRecursion, list_all}
use Rattle.std.specs.List.Sorted.{IsStrictlySortedBy}
use Rattle.std.proofs.lemmas.Bool.{and_parts, and_from}
use Rattle.std.proofs.lemmas.Bool.Decides.{nat_tests}
use Rattle.base_types.specs.Order.{rise}
use Rattle.base_types.proofs.Searching.{is_less}

-- `<` by std's comparison of numbers
pub nat_lt-cmp : (k n : ℕ) → nat_lt k n ≡ is_lt (nat_cmp k n)
nat_lt-cmp k n = grind (arith, nat_tests)

all_less : (k : ℕ) (ks : List ℕ) → list_all (nat_lt k) ks ≡ true → AllByRecursion (λ n. nat_cmp k n ≡ Less) ks
all_less k [] h = tt
all_less k (n ∷ ns) h = let both = and_parts (nat_lt k n) _ h in (is_less _ (sym (nat_lt-cmp k n) ∙ both.0), all_less k ns both.1)

less_than_all : (k : ℕ) (ks : List ℕ) → AllByRecursion (λ n. nat_cmp k n ≡ Less) ks → list_all (nat_lt k) ks ≡ true
less_than_all k [] all = refl
less_than_all k (n ∷ ns) all = and_from (nat_lt k n) _ (nat_lt-cmp k n ∙ ap is_lt all.0) (less_than_all k ns all.1)

-- numbers that rise are in strict order
pub strict_from_rise : (ks : List ℕ) → rise ks ≡ true → IsStrictlySortedBy nat_cmp ks
unfolding IsStrictlySortedBy
strict_from_rise [] h = tt
strict_from_rise (k ∷ ks) h = let both = and_parts (list_all (nat_lt k) ks) _ h in (all_less k ks both.0, strict_from_rise ks both.1)

-- and back
pub rise_from_strict : (ks : List ℕ) → IsStrictlySortedBy nat_cmp ks → rise ks ≡ true
unfolding IsStrictlySortedBy
rise_from_strict [] s = refl
rise_from_strict (k ∷ ks) s = and_from (list_all (nat_lt k) ks) _ (less_than_all k ks s.0) (rise_from_strict ks s.1)
