-- The order of lines with marks, and what a sort and `dedup` leave of them.
use Rattle.std.proofs.Common.{◌≡◌, Bool, true, false, List, [], ◌∷◌, refl, ap, ◌∙◌, Ordering}
use Rattle.std.specs.List.{dedup}
use Rattle.std.specs.List.Retain.{IsFiltered, DiffersFromLast}
use Rattle.std.specs.List.Sorted.{IsPermutation, IsSorted, IsStrictlySortedBy}
use Rattle.std.specs.Cmp.{IsTotalOrder}
use Rattle.std.specs.Ordering.{bool_cmp, eq_by_cmp, is_eq, is_le, ordering_then}
use Rattle.std.specs.declared.cmp.Ordering.TheVariants.{Less, Equal, Greater}
use Rattle.std.proofs.lemmas.Bool.{and_from}
use Rattle.std.proofs.lemmas.List.Filters.{dedup_is}
use Rattle.std.proofs.lemmas.List.Kept.{IsStrictlySortedBy-dedup}
use Rattle.base_types.specs.Order.{each_next, is_upto}
use Rattle.base_types.specs.Sets.{AllDiffer, SameElements}
use Rattle.base_types.proofs.Lists.{AllDiffer-strictly_sorted}
use Rattle.base_types.proofs.Orders.{bytes_eq-cmp, bytes_eq-true, is_upto-cmp, text_cmp}
use Rattle.base_types.proofs.Rising.{SameElements-dedup}
use Rattle.base_types.proofs.Searching.{both_equal}
use Rattle.stmt_groups.specs.declared.grouping.Line.{Line}
use Rattle.stmt_groups.specs.contracts.grouping.LineOrd.TheImpl.Laws.{total-law}

-- lines are ordered by their texts, and those of one text by their marks
abbrev pub line_cmp : Line → Line → Ordering
line_cmp k l = ordering_then (text_cmp k.text l.text) (ordering_then (bool_cmp k.mandatory l.mandatory) (bool_cmp k.chosen l.chosen))

-- it is a total order
pub line_total : IsTotalOrder line_cmp
line_total = total-law

same_bool : (a b : Bool) → bool_cmp a b ≡ Equal → a ≡ b
same_bool true true e = refl
same_bool true false e = absurd (cc)
same_bool false true e = absurd (cc)
same_bool false false e = refl

-- and lines that it counts as equal are one
pub line_exact : (k l : Line) → line_cmp k l ≡ Equal → k ≡ l
line_exact k l e =
    let a = both_equal (text_cmp k.text l.text) _ e in
    let b = both_equal (bool_cmp k.mandatory l.mandatory) _ a.1 in
    let t : k.text ≡ l.text = bytes_eq-true k.text l.text (bytes_eq-cmp k.text l.text ∙ ap is_eq a.0) in
    let m = same_bool k.mandatory l.mandatory b.0 in
    let n = same_bool k.chosen l.chosen b.1 in
    λ i. record { text = t i; mandatory = m i; chosen = n i }

first_upto : (o p : Ordering) → ordering_then o p ≡ Less → is_le o ≡ true
first_upto Less p e = refl
first_upto Equal p e = refl
first_upto Greater p e = absurd (cc)

-- the texts of lines that rise are in order
pub texts_in_order : (ls : List Line) → IsStrictlySortedBy line_cmp ls → each_next (λ (k l : Line). is_upto k.text l.text) ls ≡ true
unfolding IsStrictlySortedBy
texts_in_order [] s = refl
texts_in_order (k ∷ []) s = refl
texts_in_order (k ∷ l ∷ ls) s =
    and_from (is_upto k.text l.text) (each_next (λ (k l : Line). is_upto k.text l.text) (l ∷ ls))
    (is_upto-cmp k.text l.text ∙ first_upto (text_cmp k.text l.text) (ordering_then (bool_cmp k.mandatory l.mandatory) (bool_cmp k.chosen l.chosen)) s.0.0)
    (texts_in_order (l ∷ ls) s.1)

-- what a sort and `dedup` leave
pub sorted_lines : {E : Line → Line → Bool} (ties : (x y : Line) → E x y ≡ eq_by_cmp line_cmp x y) (xs ys zs : List Line) → IsPermutation xs ys → IsSorted line_cmp ys → IsFiltered (DiffersFromLast E) [] ys zs → SameElements zs xs × ((each_next (λ (k l : Line). is_upto k.text l.text) zs ≡ true) × AllDiffer zs)
sorted_lines {E} ties xs ys zs moved up kept =
    let rise = IsStrictlySortedBy-dedup line_total ties ys up in
    rw (dedup_is E ys zs kept) (SameElements-dedup line_total line_exact ties xs ys moved, (texts_in_order (dedup E ys) rise, AllDiffer-strictly_sorted line_total (dedup E ys) rise))
