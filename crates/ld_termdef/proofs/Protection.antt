-- Whether a definition is protected, asked of the layers.
use Rattle.std.proofs.Common.{◌≡◌, ◌↔◌, ℕ, List, [], ◌∷◌, Bool, true, false, ◌&&◌, ◌||◌, cond, find, Option, Some, None, option_map, is_none, bytes_eq, refl, sym, ap, ◌∙◌}
use Rattle.std.specs.List.{list_any}
use Rattle.std.proofs.lemmas.Bool.{or_parts, or_from}
use Rattle.base_types.proofs.Orders.{bytes_eq-true}
use Rattle.json_tree.specs.Places.{or_else}
use Rattle.ld_termdef.specs.declared.definition.TermDef.{TermDef}
use Rattle.ld_termdef.specs.declared.definition.TermEntry.{TermEntry}
use Rattle.ld_termdef.specs.Contexts.{definition_in}
use Rattle.ld_termdef.specs.Overlay.{terms_rise, overlay_of}
use Rattle.ld_termdef.specs.Internal.Merging.{shows_protected}
use Rattle.ld_termdef.proofs.Laying.{definition-first, rise-tail, overlay_of-found}
use Rattle.ld_termdef.proofs.Merging.{own-definition, none-behind}

-- no definition of the list is protected
abbrev pub NoneProtected : (List ℕ → Option TermDef) → Type 0
NoneProtected terms = (t : List ℕ) (d : TermDef) → terms t ≡ Some d → d.protected ≡ false

unprotected-over : (es : List TermEntry) → list_any (λ e. e.def.protected) es ≡ false → NoneProtected (definition_in es)
unprotected-over [] none t d is = absurd (cc)
unprotected-over (e ∷ es) none t d is = go (λ rest at. unprotected-over es rest t d at) (or_parts e.def.protected (list_any (λ e. e.def.protected) es) none) (bytes_eq e.term t) (sym (definition-first e es t) ∙ is)
  where
    go : (list_any (λ e. e.def.protected) es ≡ false → definition_in es t ≡ Some d → d.protected ≡ false) → (e.def.protected ≡ false) × (list_any (λ e. e.def.protected) es ≡ false) → (b : Bool) → cond b (Some e.def) (definition_in es t) ≡ Some d → d.protected ≡ false
    go later parts true eq = let same : e.def ≡ d = cc in sym (ap (λ (x : TermDef). x.protected) same) ∙ parts.0
    go later parts false eq = later parts.1 eq

absent-here : (over : List TermEntry) (t : List ℕ) → definition_in over t ≡ None → is_none (find (λ d. bytes_eq d.term t) over) ≡ true
absent-here over t none = go (find (λ d. bytes_eq d.term t) over) none
  where
    go : (o : Option TermEntry) → option_map (λ e. e.def) o ≡ None → is_none o ≡ true
    go None is = refl
    go (Some x) is = absurd (cc)

and-left : (a b : Bool) → (a && b) ≡ false → b ≡ true → a ≡ false
and-left true true both is = both
and-left true false both is = absurd (cc)
and-left false b both is = refl

unprotected-under : (over es : List TermEntry) → list_any (shows_protected over) es ≡ false → (t : List ℕ) (d : TermDef) → definition_in over t ≡ None → definition_in es t ≡ Some d → d.protected ≡ false
unprotected-under over [] none t d away is = absurd (cc)
unprotected-under over (e ∷ es) none t d away is = go (λ rest at. unprotected-under over es rest t d away at) (or_parts (shows_protected over e) (list_any (shows_protected over) es) none) (bytes_eq e.term t) refl (sym (definition-first e es t) ∙ is)
  where
    go : (list_any (shows_protected over) es ≡ false → definition_in es t ≡ Some d → d.protected ≡ false) → (shows_protected over e ≡ false) × (list_any (shows_protected over) es ≡ false) → (b : Bool) → bytes_eq e.term t ≡ b → cond b (Some e.def) (definition_in es t) ≡ Some d → d.protected ≡ false
    go later parts true at eq =
        let same : e.def ≡ d = cc in
        let none_over : definition_in over e.term ≡ None = ap (definition_in over) (bytes_eq-true e.term t at) ∙ away in
        sym (ap (λ (x : TermDef). x.protected) same) ∙ and-left e.def.protected (is_none (find (λ d. bytes_eq d.term e.term) over)) parts.0 (absent-here over e.term none_over)
    go later parts false at eq = later parts.1 eq

-- a definition behind the first entry is one of the list
behind : (e : TermEntry) (es : List TermEntry) → terms_rise (e ∷ es) ≡ true → (t : List ℕ) (d : TermDef) → definition_in es t ≡ Some d → definition_in (e ∷ es) t ≡ Some d
behind e es rise t d is = go (bytes_eq e.term t) refl
  where
    go : (b : Bool) → bytes_eq e.term t ≡ b → definition_in (e ∷ es) t ≡ Some d
    go true at = let none : definition_in es t ≡ None = ap (definition_in es) (sym (bytes_eq-true e.term t at)) ∙ none-behind e es rise in absurd (cc)
    go false at = definition-first e es t ∙ ap (λ b. cond b (Some e.def) (definition_in es t)) at ∙ is

and-false : (a b : Bool) → (b ≡ true → a ≡ false) → (a && b) ≡ false
and-false true true if = let no : true ≡ false = if refl in absurd (cc)
and-false true false if = refl
and-false false b if = refl

none-over : (es : List TermEntry) → terms_rise es ≡ true → NoneProtected (definition_in es) → list_any (λ e. e.def.protected) es ≡ false
none-over [] rise none = refl
none-over (e ∷ es) rise none =
    or_from e.def.protected (list_any (λ e. e.def.protected) es) (none e.term e.def (own-definition e es)) (none-over es (rise-tail e es rise) (λ t d is. none t d (behind e es rise t d is)))

absent-by : (over : List TermEntry) (t : List ℕ) → is_none (find (λ d. bytes_eq d.term t) over) ≡ true → definition_in over t ≡ None
absent-by over t is = go (find (λ d. bytes_eq d.term t) over) is
  where
    go : (o : Option TermEntry) → is_none o ≡ true → option_map (λ e. e.def) o ≡ None
    go None yes_none = refl
    go (Some x) yes_none = absurd (cc)

none-under : (over es : List TermEntry) → terms_rise es ≡ true → ((t : List ℕ) (d : TermDef) → definition_in over t ≡ None → definition_in es t ≡ Some d → d.protected ≡ false) → list_any (shows_protected over) es ≡ false
none-under over [] rise none = refl
none-under over (e ∷ es) rise none =
    or_from (shows_protected over e) (list_any (shows_protected over) es) (and-false e.def.protected (is_none (find (λ d. bytes_eq d.term e.term) over)) (λ away. none e.term e.def (absent-by over e.term away) (own-definition e es))) (none-under over es (rise-tail e es rise) (λ t d away is. none t d away (behind e es rise t d is)))

-- the two layers have a protected definition where their list has one
pub protected-layers : (over under whole : List TermEntry) (result : Bool) → whole ≡ overlay_of over under → terms_rise over ≡ true → terms_rise under ≡ true → result ≡ (list_any (λ e. e.def.protected) over || list_any (shows_protected over) under) → (result ≡ false) ↔ ((t : List ℕ) (d : TermDef) → definition_in whole t ≡ Some d → d.protected ≡ false)
protected-layers over under whole result is rise below said = (forth, back)
  where
    found : (t : List ℕ) → definition_in whole t ≡ or_else (definition_in over t) (definition_in under t)
    found t = ap (λ es. definition_in es t) is ∙ overlay_of-found over under t

    forth : result ≡ false → (t : List ℕ) (d : TermDef) → definition_in whole t ≡ Some d → d.protected ≡ false
    forth none t d at = go (or_parts (list_any (λ e. e.def.protected) over) (list_any (shows_protected over) under) (sym said ∙ none)) (definition_in over t) refl (sym (found t) ∙ at)
      where
        go : (list_any (λ e. e.def.protected) over ≡ false) × (list_any (shows_protected over) under ≡ false) → (o : Option TermDef) → definition_in over t ≡ o → or_else o (definition_in under t) ≡ Some d → d.protected ≡ false
        go parts (Some x) here eq = let same : x ≡ d = cc in unprotected-over over parts.0 t d (here ∙ ap Some same)
        go parts None here eq = unprotected-under over under parts.1 t d here eq

    back : ((t : List ℕ) (d : TermDef) → definition_in whole t ≡ Some d → d.protected ≡ false) → result ≡ false
    back none =
        said
        ∙ or_from (list_any (λ e. e.def.protected) over) (list_any (shows_protected over) under)
        (none-over over rise (λ t d here. none t d (found t ∙ ap (λ o. or_else o (definition_in under t)) here)))
        (none-under over under below (λ t d away here. none t d (found t ∙ ap (λ o. or_else o (definition_in under t)) away ∙ here)))
