-- The order of spelled statements tells all of them apart, so a sort and `dedup` leave their set.
use Rattle.std.proofs.Common.{◌≡◌, ℕ, List, [], refl, ap, Ordering, Bool, Option, Some, None}
use Rattle.std.specs.List.{dedup}
use Rattle.std.specs.List.Retain.{IsFiltered, DiffersFromLast}
use Rattle.std.specs.List.Sorted.{IsPermutation, IsSorted}
use Rattle.std.specs.Option.{option_cmp}
use Rattle.std.specs.Cmp.{IsTotalOrder}
use Rattle.std.specs.Cmp.Lexicographic.{slice_cmp}
use Rattle.std.specs.Ordering.{nat_cmp, ordering_then, eq_by_cmp}
use Rattle.std.specs.declared.cmp.Ordering.TheVariants.{Equal}
use Rattle.std.proofs.lemmas.Map.Lookups.{exact_bytes}
use Rattle.std.proofs.lemmas.List.Filters.{dedup_is}
use Rattle.std.proofs.lemmas.List.Kept.{IsStrictlySortedBy-dedup}
use Rattle.base_types.specs.Sets.{SameElements, AllDiffer}
use Rattle.base_types.proofs.Lists.{AllDiffer-strictly_sorted}
use Rattle.base_types.proofs.Rising.{SameElements-dedup}
use Rattle.base_types.proofs.Searching.{both_equal}
use Rattle.nquads.specs.declared.quads.TextQuad.{TextQuad}
use Rattle.nquads.specs.contracts.quads.TextQuadOrd.TheImpl.Laws.{total-law}

abbrev text_cmp : List ℕ → List ℕ → Ordering
text_cmp = slice_cmp nat_cmp

-- the order of text quads: by subject, predicate, object and graph
abbrev pub quad_cmp : TextQuad → TextQuad → Ordering
quad_cmp x y = ordering_then (text_cmp x.subject y.subject) (ordering_then (text_cmp x.predicate y.predicate) (ordering_then (text_cmp x.object y.object) (option_cmp text_cmp x.graph y.graph)))

quad_total : IsTotalOrder quad_cmp
quad_total = total-law

graphs_exact : (g h : Option (List ℕ)) → option_cmp text_cmp g h ≡ Equal → g ≡ h
graphs_exact None None e = refl
graphs_exact None (Some h) e = absurd (cc)
graphs_exact (Some g) None e = absurd (cc)
graphs_exact (Some g) (Some h) e = ap Some (exact_bytes g h e)

quad_exact : (x y : TextQuad) → quad_cmp x y ≡ Equal → x ≡ y
quad_exact x y e =
    let a = both_equal (text_cmp x.subject y.subject) _ e in
    let b = both_equal (text_cmp x.predicate y.predicate) _ a.1 in
    let d = both_equal (text_cmp x.object y.object) _ b.1 in
    let s = exact_bytes x.subject y.subject a.0 in
    let p = exact_bytes x.predicate y.predicate b.0 in
    let o = exact_bytes x.object y.object d.0 in
    let g = graphs_exact x.graph y.graph d.1 in
    λ i. record { subject = s i; predicate = p i; object = o i; graph = g i }

-- what `from_vec` leaves
pub sorted_set : {E : TextQuad → TextQuad → Bool} (ties : (x y : TextQuad) → E x y ≡ eq_by_cmp quad_cmp x y) (xs ys zs : List TextQuad) → IsPermutation xs ys → IsSorted quad_cmp ys → IsFiltered (DiffersFromLast E) [] ys zs → SameElements zs xs × AllDiffer zs
sorted_set {E} ties xs ys zs moved up kept =
    rw (dedup_is E ys zs kept) (SameElements-dedup quad_total quad_exact ties xs ys moved, AllDiffer-strictly_sorted quad_total (dedup E ys) (IsStrictlySortedBy-dedup quad_total ties ys up))
