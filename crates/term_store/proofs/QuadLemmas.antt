-- The order of statements tells all of them apart, so a sort and `dedup` leave their set.
use Rattle.std.proofs.Common.{◌≡◌, List, [], refl, ap, Ordering, Bool, Option, Some, None}
use Rattle.std.specs.List.{dedup}
use Rattle.std.specs.List.Retain.{IsFiltered, DiffersFromLast}
use Rattle.std.specs.List.Sorted.{IsPermutation, IsSorted}
use Rattle.std.specs.Option.{option_cmp}
use Rattle.std.specs.Cmp.{IsTotalOrder}
use Rattle.std.specs.Ordering.{nat_cmp, ordering_then, eq_by_cmp}
use Rattle.std.specs.declared.cmp.Ordering.TheVariants.{Equal}
use Rattle.std.proofs.lemmas.Map.Lookups.{exact_unsigned}
use Rattle.std.proofs.lemmas.List.Filters.{dedup_is}
use Rattle.std.proofs.lemmas.List.Kept.{IsStrictlySortedBy-dedup}
use Rattle.base_types.specs.Sets.{SameElements, AllDiffer}
use Rattle.base_types.proofs.Lists.{AllDiffer-strictly_sorted}
use Rattle.base_types.proofs.Rising.{SameElements-dedup}
use Rattle.base_types.proofs.Searching.{both_equal}
use Rattle.term_store.specs.declared.store.TermId.{TermId}
use Rattle.term_store.specs.declared.statements.Quad.{Quad}
use Rattle.term_store.specs.contracts.statements.QuadOrd.TheImpl.Laws.{total-law}

abbrev id_cmp : TermId → TermId → Ordering
id_cmp a b = nat_cmp a.index b.index

-- the order of quads: by subject, predicate, object and graph
abbrev pub quad_cmp : Quad → Quad → Ordering
quad_cmp x y = ordering_then (id_cmp x.subject y.subject) (ordering_then (id_cmp x.predicate y.predicate) (ordering_then (id_cmp x.object y.object) (option_cmp id_cmp x.graph y.graph)))

quad_total : IsTotalOrder quad_cmp
quad_total = total-law

id_exact : (a b : TermId) → id_cmp a b ≡ Equal → a ≡ b
id_exact a b e = let same = exact_unsigned a.index b.index e in λ i. record { index = same i }

graphs_exact : (g h : Option TermId) → option_cmp id_cmp g h ≡ Equal → g ≡ h
graphs_exact None None e = refl
graphs_exact None (Some h) e = absurd (cc)
graphs_exact (Some g) None e = absurd (cc)
graphs_exact (Some g) (Some h) e = ap Some (id_exact g h e)

quad_exact : (x y : Quad) → quad_cmp x y ≡ Equal → x ≡ y
quad_exact x y e =
    let a = both_equal (id_cmp x.subject y.subject) _ e in
    let b = both_equal (id_cmp x.predicate y.predicate) _ a.1 in
    let d = both_equal (id_cmp x.object y.object) _ b.1 in
    let s = id_exact x.subject y.subject a.0 in
    let p = id_exact x.predicate y.predicate b.0 in
    let o = id_exact x.object y.object d.0 in
    let g = graphs_exact x.graph y.graph d.1 in
    λ i. record { subject = s i; predicate = p i; object = o i; graph = g i }

-- what `from_vec` leaves
pub sorted_set : {E : Quad → Quad → Bool} (ties : (x y : Quad) → E x y ≡ eq_by_cmp quad_cmp x y) (xs ys zs : List Quad) → IsPermutation xs ys → IsSorted quad_cmp ys → IsFiltered (DiffersFromLast E) [] ys zs → SameElements zs xs × AllDiffer zs
sorted_set {E} ties xs ys zs moved up kept =
    rw (dedup_is E ys zs kept) (SameElements-dedup quad_total quad_exact ties xs ys moved, AllDiffer-strictly_sorted quad_total (dedup E ys) (IsStrictlySortedBy-dedup quad_total ties ys up))
