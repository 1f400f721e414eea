use Rattle.std.proofs.Common.{[], ◌∷◌, refl, codes}
use Rattle.std.specs.List.{IsDistinct}
use Rattle.std.specs.Str.{bytes_eq}
use Rattle.std.proofs.lemmas.Map.Made.{AllPairs-from_IsDistinct}
use Rattle.std.proofs.lemmas.Slice.Eq.{bytes_eq-Decides}
use Rattle.base_types.specs.Sets.{AllDiffer}
use Rattle.term_store.proofs.laws.worked_store.Goals as goal

one_distinct : IsDistinct bytes_eq (codes "a" ∷ [])
unfolding IsDistinct
one_distinct = (tt, tt)

two_distinct : IsDistinct bytes_eq (codes "a" ∷ codes "b" ∷ [])
unfolding IsDistinct
two_distinct = ((refl, tt), (tt, tt))

one_differs : AllDiffer (codes "a" ∷ [])
one_differs = AllPairs-from_IsDistinct bytes_eq-Decides (codes "a" ∷ []) one_distinct

two_differ : AllDiffer (codes "a" ∷ codes "b" ∷ [])
two_differ = AllPairs-from_IsDistinct bytes_eq-Decides (codes "a" ∷ codes "b" ∷ []) two_distinct

pub returns : goal.returns
returns c = record {
  first = record { at = refl; texts = refl; differ = one_differs };
  second = record { at = refl; texts = refl; differ = two_differ };
  again = record { at = refl; texts = refl; differ = two_differ };
}
