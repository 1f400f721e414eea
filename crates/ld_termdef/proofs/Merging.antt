-- Two lists in the byte order of their terms, put together entry by entry.
use Rattle.std.proofs.Common.{◌≡◌, ◌⊎◌, inl, inr, ℕ, List, [], ◌∷◌, ◌++◌, Bool, true, false, ◌&&◌, cond, find, Option, Some, None, option_map, bytes_eq, if◌then◌else◌, refl, sym, ap, ◌∙◌}
use Rattle.std.specs.List.{list_all}
use Rattle.std.proofs.lemmas.Bool.{and_parts, and_from}
use Rattle.base_types.specs.Order.{is_before}
use Rattle.base_types.proofs.Orders.{bytes_eq-true, bytes_eq-same, bytes_eq-false, is_before-transitive, is_before-differs, is_before-cases}
use Rattle.json_tree.specs.Places.{or_else}
use Rattle.ld_termdef.specs.declared.definition.TermDef.{TermDef}
use Rattle.ld_termdef.specs.declared.definition.TermEntry.{TermEntry}
use Rattle.ld_termdef.specs.Contexts.{definition_in}
use Rattle.ld_termdef.specs.Overlay.{terms_rise, has_lawful_scope, have_lawful_scopes, put_entry, overlay_of}
use Rattle.ld_termdef.proofs.Laying.{definition-first, rise-first, rise-tail, rise-under, put-rises, overlay_of-found, overlay_of-rises}

-- a text comes before no equal one
same_not_before : (x y : List ℕ) → x ≡ y → is_before x y ≡ false
same_not_before x y same = go (is_before x y) refl
  where
    go : (b : Bool) → is_before x y ≡ b → b ≡ false
    go false is = refl
    go true is = let differ : bytes_eq x y ≡ false = is_before-differs x y is in let alike : bytes_eq x y ≡ true = bytes_eq-same x y same in absurd (cc)

-- nor one that comes before it
later_not_before : (x y : List ℕ) → is_before x y ≡ true → is_before y x ≡ false
later_not_before x y before = go (is_before y x) refl
  where
    go : (b : Bool) → is_before y x ≡ b → b ≡ false
    go false is = refl
    go true is = let around : is_before x x ≡ true = is_before-transitive x y x before is in let never : is_before x x ≡ false = same_not_before x x refl in absurd (cc)

later_differs : (x y : List ℕ) → is_before x y ≡ true → bytes_eq y x ≡ false
later_differs x y before = bytes_eq-false y x (λ same. let never : is_before x y ≡ false = same_not_before x y (sym same) in absurd (cc))

-- ---- a first entry before all others

-- the second entry may be left out
pub rise-skip : (d e : TermEntry) (es : List TermEntry) → terms_rise (d ∷ e ∷ es) ≡ true → terms_rise (d ∷ es) ≡ true
rise-skip d e [] rise = refl
rise-skip d e (c ∷ cs) rise =
    let outer = rise-first d e (c ∷ cs) rise in
    let inner = rise-first e c cs outer.1 in
    and_from (is_before d.term c.term) (terms_rise (c ∷ cs)) (is_before-transitive d.term e.term c.term outer.0 inner.0) inner.1

rise-overlay : (d : TermEntry) (over under : List TermEntry) → terms_rise (d ∷ over) ≡ true → terms_rise (d ∷ under) ≡ true → terms_rise (d ∷ overlay_of over under) ≡ true
rise-overlay d [] under rise below = below
rise-overlay d (e ∷ es) under rise below =
    rise-under d e (overlay_of es under) (rise-first d e es rise).0 (rise-overlay d es under (rise-skip d e es rise) below) (put-rises e (overlay_of es under) (overlay_of-rises es under (rise-tail d under below)))

put-front : (e : TermEntry) (ds : List TermEntry) → terms_rise (e ∷ ds) ≡ true → put_entry e ds ≡ e ∷ ds
put-front e [] rise = refl
put-front e (d ∷ ds) rise =
    ap (λ b. if b then e ∷ d ∷ ds else (if bytes_eq e.term d.term then e ∷ ds else d ∷ put_entry e ds)) (rise-first e d ds rise).0

put-behind : (e d : TermEntry) (ds : List TermEntry) → is_before d.term e.term ≡ true → put_entry e (d ∷ ds) ≡ d ∷ put_entry e ds
put-behind e d ds before =
    ap (λ b. if b then e ∷ d ∷ ds else (if bytes_eq e.term d.term then e ∷ ds else d ∷ put_entry e ds)) (later_not_before d.term e.term before)
    ∙ ap (λ b. if b then e ∷ ds else d ∷ put_entry e ds) (later_differs d.term e.term before)

put-same : (e d : TermEntry) (ds : List TermEntry) → e.term ≡ d.term → put_entry e (d ∷ ds) ≡ e ∷ ds
put-same e d ds same =
    ap (λ b. if b then e ∷ d ∷ ds else (if bytes_eq e.term d.term then e ∷ ds else d ∷ put_entry e ds)) (same_not_before e.term d.term same)
    ∙ ap (λ b. if b then e ∷ ds else d ∷ put_entry e ds) (bytes_eq-same e.term d.term same)

-- ---- the first entry of both

-- that of the upper list
pub merge-over : (e u : TermEntry) (es us : List TermEntry) → terms_rise (e ∷ es) ≡ true → terms_rise (u ∷ us) ≡ true → is_before e.term u.term ≡ true → overlay_of (e ∷ es) (u ∷ us) ≡ e ∷ overlay_of es (u ∷ us)
merge-over e u es us rise below before =
    put-front e (overlay_of es (u ∷ us)) (rise-overlay e es (u ∷ us) rise (and_from (is_before e.term u.term) (terms_rise (u ∷ us)) before below))

-- that of the lower list, before all of the upper one
under-first : (u : TermEntry) (es us : List TermEntry) → terms_rise (u ∷ es) ≡ true → overlay_of es (u ∷ us) ≡ u ∷ overlay_of es us
under-first u [] us rise = refl
under-first u (e ∷ es) us rise =
    ap (put_entry e) (under-first u es us (rise-skip u e es rise)) ∙ put-behind e u (overlay_of es us) (rise-first u e es rise).0

-- that of the lower list
pub merge-under : (e u : TermEntry) (es us : List TermEntry) → terms_rise (e ∷ es) ≡ true → is_before u.term e.term ≡ true → overlay_of (e ∷ es) (u ∷ us) ≡ u ∷ overlay_of (e ∷ es) us
merge-under e u es us rise before = under-first u (e ∷ es) us (and_from (is_before u.term e.term) (terms_rise (e ∷ es)) before rise)

-- two of one term
pub merge-same : (e u : TermEntry) (es us : List TermEntry) → terms_rise (e ∷ es) ≡ true → e.term ≡ u.term → overlay_of (e ∷ es) (u ∷ us) ≡ e ∷ overlay_of es us
merge-same e u es us rise same =
    ap (put_entry e) (under-first u es us (go es rise)) ∙ put-same e u (overlay_of es us) same
  where
    go : (cs : List TermEntry) → terms_rise (e ∷ cs) ≡ true → terms_rise (u ∷ cs) ≡ true
    go [] r = refl
    go (c ∷ cs) r =
        let parts = rise-first e c cs r in
        and_from (is_before u.term c.term) (terms_rise (c ∷ cs)) (ap (λ (k : List ℕ). is_before k c.term) (sym same) ∙ parts.0) parts.1

-- nothing below
pub merge-none : (es : List TermEntry) → terms_rise es ≡ true → overlay_of es [] ≡ es
merge-none [] rise = refl
merge-none (e ∷ es) rise = ap (put_entry e) (merge-none es (rise-tail e es rise)) ∙ put-front e es rise

-- ---- a list whose terms rise is known by its definitions

none-before : (t : List ℕ) (d : TermEntry) (ds : List TermEntry) → is_before t d.term ≡ true → terms_rise (d ∷ ds) ≡ true → definition_in (d ∷ ds) t ≡ None
none-before t d [] before rise = definition-first d [] t ∙ ap (λ b. cond b (Some d.def) None) (later_differs t d.term before)
none-before t d (e ∷ es) before rise =
    let parts = rise-first d e es rise in
    definition-first d (e ∷ es) t ∙ ap (λ b. cond b (Some d.def) (definition_in (e ∷ es) t)) (later_differs t d.term before) ∙ none-before t e es (is_before-transitive t d.term e.term before parts.0) parts.1

-- behind the first entry its term has no definition
pub none-behind : (d : TermEntry) (ds : List TermEntry) → terms_rise (d ∷ ds) ≡ true → definition_in ds d.term ≡ None
none-behind d [] rise = refl
none-behind d (e ∷ es) rise = let parts = rise-first d e es rise in none-before d.term e es parts.0 parts.1

-- the definition of the first entry
pub own-definition : (d : TermEntry) (ds : List TermEntry) → definition_in (d ∷ ds) d.term ≡ Some d.def
own-definition d ds = definition-first d ds d.term ∙ ap (λ b. cond b (Some d.def) (definition_in ds d.term)) (bytes_eq-same d.term d.term refl)

rest-same : (d e : TermEntry) (ds es : List TermEntry) → terms_rise (d ∷ ds) ≡ true → terms_rise (e ∷ es) ≡ true → d ≡ e → ((t : List ℕ) → definition_in (d ∷ ds) t ≡ definition_in (e ∷ es) t) → (t : List ℕ) → definition_in ds t ≡ definition_in es t
rest-same d e ds es rise other alike same t = go (bytes_eq d.term t) refl
  where
    go : (b : Bool) → bytes_eq d.term t ≡ b → definition_in ds t ≡ definition_in es t
    go true is =
        let one : definition_in ds t ≡ None = ap (definition_in ds) (sym (bytes_eq-true d.term t is)) ∙ none-behind d ds rise in
        let two : definition_in es t ≡ None = ap (definition_in es) (sym (bytes_eq-true d.term t is) ∙ ap (λ (x : TermEntry). x.term) alike) ∙ none-behind e es other in
        one ∙ sym two
    go false is =
        let away : bytes_eq e.term t ≡ false = ap (λ (x : TermEntry). bytes_eq x.term t) (sym alike) ∙ is in
        sym (definition-first d ds t ∙ ap (λ b. cond b (Some d.def) (definition_in ds t)) is) ∙ same t ∙ definition-first e es t ∙ ap (λ b. cond b (Some e.def) (definition_in es t)) away

entry-same : (d e : TermEntry) → d.term ≡ e.term → Some d.def ≡ Some e.def → d ≡ e
entry-same d e term def = let defs : d.def ≡ e.def = cc in λ j. record { term = term j; def = defs j }

first-same : (d e : TermEntry) (ds es : List TermEntry) → terms_rise (d ∷ ds) ≡ true → terms_rise (e ∷ es) ≡ true → ((t : List ℕ) → definition_in (d ∷ ds) t ≡ definition_in (e ∷ es) t) → d ≡ e
first-same d e ds es rise other same = go (is_before-cases d.term e.term)
  where
    go : (is_before d.term e.term ≡ true) ⊎ ((d.term ≡ e.term) ⊎ (is_before e.term d.term ≡ true)) → d ≡ e
    go (inl before) =
        let some : Some d.def ≡ None = sym (own-definition d ds) ∙ same d.term ∙ none-before d.term e es before other in
        absurd (cc)
    go (inr (inl alike)) =
        entry-same d e alike (sym (own-definition d ds) ∙ same d.term ∙ ap (definition_in (e ∷ es)) alike ∙ own-definition e es)
    go (inr (inr after)) =
        let some : Some e.def ≡ None = sym (own-definition e es) ∙ sym (same e.term) ∙ none-before e.term d ds after rise in
        absurd (cc)

-- lists that rise and define the same are one
pub rise-unique : (ds es : List TermEntry) → terms_rise ds ≡ true → terms_rise es ≡ true → ((t : List ℕ) → definition_in ds t ≡ definition_in es t) → ds ≡ es
rise-unique [] [] rise other same = refl
rise-unique [] (e ∷ es) rise other same = let some : None ≡ Some e.def = same e.term ∙ own-definition e es in absurd (cc)
rise-unique (d ∷ ds) [] rise other same = let some : None ≡ Some d.def = sym (same d.term) ∙ own-definition d ds in absurd (cc)
rise-unique (d ∷ ds) (e ∷ es) rise other same =
    let alike = first-same d e ds es rise other same in
    let rest = rise-unique ds es (rise-tail d ds rise) (rise-tail e es other) (rest-same d e ds es rise other alike same) in
    λ j. alike j ∷ rest j

-- the first of three, however they are grouped
pub or_else-assoc : {A : Type 0} (a b c : Option A) → or_else (or_else a b) c ≡ or_else a (or_else b c)
or_else-assoc (Some x) b c = refl
or_else-assoc None b c = refl

-- what is laid over layers is laid over the upper one
pub overlay_of-assoc : (more over under : List TermEntry) → terms_rise under ≡ true → overlay_of (overlay_of more over) under ≡ overlay_of more (overlay_of over under)
overlay_of-assoc more over under rise =
    rise-unique (overlay_of (overlay_of more over) under) (overlay_of more (overlay_of over under)) (overlay_of-rises (overlay_of more over) under rise) (overlay_of-rises more (overlay_of over under) (overlay_of-rises over under rise))
    (λ t. overlay_of-found (overlay_of more over) under t
    ∙ ap (λ o. or_else o (definition_in under t)) (overlay_of-found more over t)
    ∙ or_else-assoc (definition_in more t) (definition_in over t) (definition_in under t)
    ∙ sym (overlay_of-found more (overlay_of over under) t ∙ ap (or_else (definition_in more t)) (overlay_of-found over under t)))

-- ---- the local contexts stay lawful

put-lawful : (e : TermEntry) (ds : List TermEntry) → has_lawful_scope e.def ≡ true → have_lawful_scopes ds ≡ true → have_lawful_scopes (put_entry e ds) ≡ true
put-lawful e [] own all = and_from (has_lawful_scope e.def) true own refl
put-lawful e (d ∷ ds) own all = go (put-lawful e ds own) (and_parts (has_lawful_scope d.def) (have_lawful_scopes ds) all) (is_before e.term d.term) (bytes_eq e.term d.term)
  where
    go : (have_lawful_scopes ds ≡ true → have_lawful_scopes (put_entry e ds) ≡ true) → (has_lawful_scope d.def ≡ true) × (have_lawful_scopes ds ≡ true) → (before same : Bool) → have_lawful_scopes (if before then e ∷ d ∷ ds else (if same then e ∷ ds else d ∷ put_entry e ds)) ≡ true
    go later parts true same = and_from (has_lawful_scope e.def) (have_lawful_scopes (d ∷ ds)) own all
    go later parts false true = and_from (has_lawful_scope e.def) (have_lawful_scopes ds) own parts.1
    go later parts false false = and_from (has_lawful_scope d.def) (have_lawful_scopes (put_entry e ds)) parts.0 (later parts.1)

-- the contexts of both lists stay lawful
pub overlay_of-lawful : (over under : List TermEntry) → have_lawful_scopes over ≡ true → have_lawful_scopes under ≡ true → have_lawful_scopes (overlay_of over under) ≡ true
overlay_of-lawful [] under own below = below
overlay_of-lawful (e ∷ es) under own below =
    let parts = and_parts (has_lawful_scope e.def) (have_lawful_scopes es) own in
    put-lawful e (overlay_of es under) parts.0 (overlay_of-lawful es under parts.1 below)

-- the definition of a term has a lawful context
pub found-lawful : (es : List TermEntry) (t : List ℕ) (d : TermDef) → have_lawful_scopes es ≡ true → definition_in es t ≡ Some d → has_lawful_scope d ≡ true
found-lawful [] t d all is = absurd (cc)
found-lawful (e ∷ es) t d all is = go (found-lawful es t d) (and_parts (has_lawful_scope e.def) (have_lawful_scopes es) all) (bytes_eq e.term t) (sym (definition-first e es t) ∙ is)
  where
    go : (have_lawful_scopes es ≡ true → definition_in es t ≡ Some d → has_lawful_scope d ≡ true) → (has_lawful_scope e.def ≡ true) × (have_lawful_scopes es ≡ true) → (b : Bool) → cond b (Some e.def) (definition_in es t) ≡ Some d → has_lawful_scope d ≡ true
    go later parts true eq = let same : e.def ≡ d = cc in sym (ap has_lawful_scope same) ∙ parts.0
    go later parts false eq = later parts.1 eq
