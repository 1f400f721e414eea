-- What the calls of definitions find and make, in terms of their layers.
use Rattle.std.proofs.Common.{◌≡◌, ◌⊎◌, ℕ, ◌+◌, ◌<◌, ◌≤◌, zero, suc, List, [], ◌∷◌, ◌++◌, Bool, true, false, cond, find, length, Option, Some, None, option_map, bytes_eq, refl, sym, ap, ◌∙◌, subst, append_assoc, arith, inl, inr}
use Rattle.std.proofs.lemmas.Cmp.{tied_itself}
use Rattle.std.proofs.lemmas.Map.Lookups.{exact_bytes}
use Rattle.std.specs.declared.cmp.Ordering.TheVariants.{Less, Equal, Greater}
use Rattle.std.specs.Cmp.Lexicographic.{slice_cmp, nat_list_cmp_total}
use Rattle.std.specs.Ordering.{nat_cmp, is_lt, ordering_reverse}
use Rattle.base_types.specs.Order.{is_before}
use Rattle.json_tree.specs.Places.{or_else}
use Rattle.ld_termdef.specs.declared.definition.TermDef.{TermDef}
use Rattle.ld_termdef.specs.declared.definition.TermEntry.{TermEntry}
use Rattle.ld_termdef.specs.Contexts.{definition_in}
use Rattle.ld_termdef.specs.Overlay.{terms_rise, has_lawful_scope, have_lawful_scopes, overlay_of}
use Rattle.ld_termdef.specs.Layers.{AreLayers}
use Rattle.ld_termdef.specs.Internal.Merging.{TakesFirst, Takes}
use Rattle.ld_termdef.proofs.Laying.{rise-tail, overlay_of-found, overlay_of-rises}
use Rattle.ld_termdef.proofs.Merging.{merge-over, merge-under, merge-same, merge-none, overlay_of-assoc, overlay_of-lawful, found-lawful}

-- ---- a look-up

here : (es : List TermEntry) (t : List ℕ) (o : Option TermEntry) → o ≡ find (λ e. bytes_eq e.term t) es → definition_in es t ≡ option_map (λ e. e.def) o
here es t o is = ap (option_map (λ e. e.def)) (sym is)

-- what is found in the upper layer
pub get-over : (over under whole : List TermEntry) (t : List ℕ) (x : TermEntry) → whole ≡ overlay_of over under → Some x ≡ find (λ e. bytes_eq e.term t) over → Some x.def ≡ definition_in whole t
get-over over under whole t x is found =
    sym (ap (λ es. definition_in es t) is ∙ overlay_of-found over under t ∙ ap (λ o. or_else o (definition_in under t)) (here over t (Some x) found))

-- what is not found there is looked for below
pub get-under : (over under whole : List TermEntry) (t : List ℕ) (o : Option TermEntry) → whole ≡ overlay_of over under → None ≡ find (λ e. bytes_eq e.term t) over → o ≡ find (λ e. bytes_eq e.term t) under → option_map (λ e. e.def) o ≡ definition_in whole t
get-under over under whole t o is none found =
    sym (ap (λ es. definition_in es t) is ∙ overlay_of-found over under t ∙ ap (λ p. or_else p (definition_in under t)) (here over t None none) ∙ here under t o found)

-- what is found has a lawful context
pub get-lawful : (es : List TermEntry) (t : List ℕ) (x : TermEntry) → have_lawful_scopes es ≡ true → Some x ≡ find (λ e. bytes_eq e.term t) es → has_lawful_scope x.def ≡ true
get-lawful es t x lawful found = found-lawful es t x.def lawful (here es t (Some x) found)

-- ---- a step of putting two lists together

before-if : (x y : List ℕ) → slice_cmp nat_cmp x y ≡ Less → is_before x y ≡ true
before-if x y is = ap is_lt is

after-if : (x y : List ℕ) → slice_cmp nat_cmp x y ≡ Greater → is_before y x ≡ true
after-if x y is = ap is_lt (nat_list_cmp_total.antisymm y x ∙ ap ordering_reverse is)

taken : (old new : List TermEntry) (x : TermEntry) (rest whole : List TermEntry) → new ≡ old ++ x ∷ [] → whole ≡ x ∷ rest → new ++ rest ≡ old ++ whole
taken old new x rest whole made is = ap (λ es. es ++ rest) made ∙ append_assoc old (x ∷ []) rest ∙ ap (λ es. old ++ es) (sym is)

takes-over-first : (old new es us : List TermEntry) (x y : TermEntry) → terms_rise (x ∷ es) ≡ true → terms_rise (y ∷ us) ≡ true → slice_cmp nat_cmp x.term y.term ≡ Less → new ≡ old ++ x ∷ [] → TakesFirst old new (x ∷ es) (y ∷ us) (es, y ∷ us)
takes-over-first old new es us x y rise lower order made =
    let before : is_before x.term y.term ≡ true = before-if x.term y.term order in
    record {
      same = taken old new x (overlay_of es (y ∷ us)) (overlay_of (x ∷ es) (y ∷ us)) made (merge-over x y es us rise lower before);
      over_rises = rise-tail x es rise;
      under_rises = lower;
      fewer = omega arith;
    }

-- the entry of the upper list comes first
pub takes-over : (old new over under over_rest under_rest : List TermEntry) (x y : TermEntry) → over ≡ x ∷ over_rest → under ≡ y ∷ under_rest → terms_rise over ≡ true → terms_rise under ≡ true → slice_cmp nat_cmp x.term y.term ≡ Less → new ≡ old ++ x ∷ [] → TakesFirst old new over under (over_rest, under)
takes-over old new over under over_rest under_rest x y is below rise lower order made =
    subst (λ o. TakesFirst old new o under (over_rest, under)) (sym is)
    (subst (λ u. TakesFirst old new (x ∷ over_rest) u (over_rest, u)) (sym below)
    (takes-over-first old new over_rest under_rest x y (ap terms_rise (sym is) ∙ rise) (ap terms_rise (sym below) ∙ lower) order made))

takes-same-first : (old new es us : List TermEntry) (x y : TermEntry) → terms_rise (x ∷ es) ≡ true → terms_rise (y ∷ us) ≡ true → slice_cmp nat_cmp x.term y.term ≡ Equal → new ≡ old ++ x ∷ [] → TakesFirst old new (x ∷ es) (y ∷ us) (es, us)
takes-same-first old new es us x y rise lower order made =
    let alike : x.term ≡ y.term = exact_bytes x.term y.term order in
    record {
      same = taken old new x (overlay_of es us) (overlay_of (x ∷ es) (y ∷ us)) made (merge-same x y es us rise alike);
      over_rises = rise-tail x es rise;
      under_rises = rise-tail y us lower;
      fewer = omega arith;
    }

-- two entries of one term: the upper one
pub takes-same : (old new over under over_rest under_rest : List TermEntry) (x y : TermEntry) → over ≡ x ∷ over_rest → under ≡ y ∷ under_rest → terms_rise over ≡ true → terms_rise under ≡ true → slice_cmp nat_cmp x.term y.term ≡ Equal → new ≡ old ++ x ∷ [] → TakesFirst old new over under (over_rest, under_rest)
takes-same old new over under over_rest under_rest x y is below rise lower order made =
    subst (λ o. TakesFirst old new o under (over_rest, under_rest)) (sym is)
    (subst (λ u. TakesFirst old new (x ∷ over_rest) u (over_rest, under_rest)) (sym below)
    (takes-same-first old new over_rest under_rest x y (ap terms_rise (sym is) ∙ rise) (ap terms_rise (sym below) ∙ lower) order made))

takes-under-first : (old new es us : List TermEntry) (x y : TermEntry) → terms_rise (x ∷ es) ≡ true → terms_rise (y ∷ us) ≡ true → slice_cmp nat_cmp x.term y.term ≡ Greater → new ≡ old ++ y ∷ [] → TakesFirst old new (x ∷ es) (y ∷ us) (x ∷ es, us)
takes-under-first old new es us x y rise lower order made =
    let after : is_before y.term x.term ≡ true = after-if x.term y.term order in
    record {
      same = taken old new y (overlay_of (x ∷ es) us) (overlay_of (x ∷ es) (y ∷ us)) made (merge-under x y es us rise after);
      over_rises = rise;
      under_rises = rise-tail y us lower;
      fewer = omega arith;
    }

-- the entry of the lower list comes first
pub takes-under : (old new over under over_rest under_rest : List TermEntry) (x y : TermEntry) → over ≡ x ∷ over_rest → under ≡ y ∷ under_rest → terms_rise over ≡ true → terms_rise under ≡ true → slice_cmp nat_cmp x.term y.term ≡ Greater → new ≡ old ++ y ∷ [] → TakesFirst old new over under (over, under_rest)
takes-under old new over under over_rest under_rest x y is below rise lower order made =
    subst (λ o. TakesFirst old new o under (o, under_rest)) (sym is)
    (subst (λ u. TakesFirst old new (x ∷ over_rest) u (x ∷ over_rest, under_rest)) (sym below)
    (takes-under-first old new over_rest under_rest x y (ap terms_rise (sym is) ∙ rise) (ap terms_rise (sym below) ∙ lower) order made))

-- ---- the loop

-- where no entry is taken one list is empty
pub takes-end : {Y : Type 0} (old new over under : List TermEntry) (f : Y → List TermEntry × List TermEntry) (o : Option Y) → o ≡ None → Takes old new over under (option_map f o) → (new ≡ old) × ((over ≡ []) ⊎ (under ≡ []))
takes-end old new over under f None is takes = takes
takes-end old new over under f (Some rest) is takes = absurd (cc)

-- where one list is empty, the two stand one behind the other
pub merge-end : (upper lower : List TermEntry) → terms_rise upper ≡ true → (upper ≡ []) ⊎ (lower ≡ []) → overlay_of upper lower ≡ upper ++ lower
merge-end [] lower rise end = refl
merge-end (e ∷ es) [] rise end = merge-none (e ∷ es) rise ∙ sym (append-nil (e ∷ es))
  where
    append-nil : (xs : List TermEntry) → xs ++ [] ≡ xs
    append-nil [] = refl
    append-nil (x ∷ xs) = ap (λ ys. x ∷ ys) (append-nil xs)
merge-end (e ∷ es) (u ∷ us) rise end = absurd (go end)
  where
    go : (e ∷ es ≡ []) ⊎ (u ∷ us ≡ []) → ⊥
    go (inl is) = cc
    go (inr is) = cc

-- the loop ends
pub merged-end : (made upper lower over under last whole : List TermEntry) → made ++ overlay_of upper lower ≡ overlay_of over under → terms_rise upper ≡ true → (upper ≡ []) ⊎ (lower ≡ []) → last ≡ made ++ upper → whole ≡ last ++ lower → whole ≡ overlay_of over under
merged-end made upper lower over under last whole so_far rise end first second =
    second ∙ ap (λ es. es ++ lower) first ∙ append_assoc made upper lower ∙ ap (λ es. made ++ es) (sym (merge-end upper lower rise end)) ∙ so_far

-- ---- laying over

-- layers over the same lower one
pub lay-layers : (top more over under low : List TermEntry) → top ≡ overlay_of more over → low ≡ under → terms_rise more ≡ true → have_lawful_scopes more ≡ true → AreLayers over under → AreLayers top low
lay-layers top more over under low is below rise lawful layers =
    subst (λ t. AreLayers t low) (sym is) (subst (AreLayers (overlay_of more over)) (sym below) (record {
      over_rises = overlay_of-rises more over layers.over_rises;
      under_rises = layers.under_rises;
      over_lawful = overlay_of-lawful more over lawful layers.over_lawful;
      under_lawful = layers.under_lawful;
    }))

-- the same layers
pub same-layers : (over under top low : List TermEntry) → top ≡ over → low ≡ under → AreLayers over under → AreLayers top low
same-layers over under top low is below layers = subst (λ t. AreLayers t low) (sym is) (subst (AreLayers over) (sym below) layers)

-- one layer of both
pub flat-layers : (over under none whole : List TermEntry) → none ≡ [] → whole ≡ overlay_of over under → AreLayers over under → AreLayers none whole
flat-layers over under none whole empty is layers =
    subst (λ t. AreLayers t whole) (sym empty) (subst (AreLayers []) (sym is) (record {
      over_rises = refl;
      under_rises = overlay_of-rises over under layers.under_rises;
      over_lawful = refl;
      under_lawful = overlay_of-lawful over under layers.over_lawful layers.under_lawful;
    }))

-- one layer of both stands for the same
pub flat-same : (over under none whole result : List TermEntry) → result ≡ overlay_of none whole → none ≡ [] → whole ≡ overlay_of over under → result ≡ overlay_of over under
flat-same over under none whole result made empty is = made ∙ ap (λ es. overlay_of es whole) empty ∙ is

-- what lies over the upper layer lies over both
pub laid : (more over under top low whole result : List TermEntry) → whole ≡ overlay_of over under → AreLayers over under → top ≡ overlay_of more over → low ≡ under → result ≡ overlay_of top low → result ≡ overlay_of more whole
laid more over under top low whole result is layers above below made =
    made ∙ ap (λ es. overlay_of es low) above ∙ ap (overlay_of (overlay_of more over)) below ∙ overlay_of-assoc more over under layers.under_rises ∙ ap (overlay_of more) (sym is)

pub ruleset take_steps = (takes-over, takes-same, takes-under)

pub ruleset lay_steps = (lay-layers, laid)

pub ruleset flat_steps = (same-layers, flat-layers, flat-same)
