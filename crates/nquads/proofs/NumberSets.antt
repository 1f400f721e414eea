-- A sort of numbers and `dedup` leave their set.
use Rattle.std.proofs.Common.{ℕ, List, [], ◌==◌, sym}
use Rattle.std.specs.List.{dedup}
use Rattle.std.specs.List.Retain.{IsFiltered, DiffersFromLast}
use Rattle.std.specs.List.Sorted.{IsPermutation, IsSorted}
use Rattle.std.specs.Ordering.{nat_cmp}
use Rattle.std.specs.Cmp.{unsigned_tied}
use Rattle.std.proofs.lemmas.Cmp.{nat_cmp_total}
use Rattle.std.proofs.lemmas.Map.Lookups.{exact_unsigned}
use Rattle.std.proofs.lemmas.List.Filters.{dedup_is}
use Rattle.std.proofs.lemmas.List.Kept.{IsStrictlySortedBy-dedup}
use Rattle.base_types.specs.Sets.{SameElements, AllDiffer}
use Rattle.base_types.proofs.Lists.{AllDiffer-strictly_sorted}
use Rattle.base_types.proofs.Rising.{SameElements-dedup}

-- what they leave
pub number_set : (xs ys zs : List ℕ) → IsPermutation xs ys → IsSorted nat_cmp ys → IsFiltered (DiffersFromLast ◌==◌) [] ys zs → SameElements zs xs × AllDiffer zs
number_set xs ys zs moved up kept =
    rw (dedup_is ◌==◌ ys zs kept) (
      SameElements-dedup nat_cmp_total exact_unsigned (λ x y. sym (unsigned_tied x y)) xs ys moved,
      AllDiffer-strictly_sorted nat_cmp_total (dedup ◌==◌ ys) (IsStrictlySortedBy-dedup nat_cmp_total (λ x y. sym (unsigned_tied x y)) ys up),
    )
