-- What a context object leaves as it was: terms without an entry, a context without entries, protected
-- terms.
use Rattle.std.proofs.Common.{◌≡◌, inl, inr, ℕ, List, [], Bool, true, false, ◌&&◌, ◌||◌, not, Option, Some, None, option_and_then, is_some, refl, sym, ap, subst, ◌∙◌}
use Rattle.std.proofs.lemmas.Bool.{or_right}
use Rattle.json_tree.specs.declared.tree.Tree.{out-Tree}
use Rattle.ld_termdef.specs.declared.definition.TermDef.{TermDef}
use Rattle.ld_termdef.specs.Checked.{value_or}
use Rattle.ld_termdef.specs.Contexts.{Context}
use Rattle.ld_termdef.specs.Entries.{ContextEntry, Given, ExpandedDefinition, expanded_of, find_entry, counting_entry, entry}
use Rattle.ld_termdef.specs.Rows.{rows}
use Rattle.ld_termdef.specs.Definitions.{flag_or, is_protected, protected_flag, term_definition, without_flag, MayReplace}
use Rattle.ld_termdef.specs.Needs.{Ranked}
use Rattle.ld_termdef.specs.Equation.{HasParts, SolvesValue, SolvesEntry, IsContext}
use Rattle.ld_termdef.proofs.Solutions.{entry_key}

-- ---- without entries

no_entry : (g : Given) → g.entries ≡ [] → (t : List ℕ) → entry g t ≡ None
no_entry g none t = ap (λ es. option_and_then counting_entry (find_entry t es)) none

-- a context object without entries leaves the context as it is
pub unchanged : (g : Given) → g.entries ≡ [] → IsContext g g.before
unchanged g none =
    let parts : HasParts g g.before = record { base = refl; vocab = refl; language = refl; direction = refl } in
    let ranked : Ranked g = record {
      rank = λ t. 0;
      falls = λ t u needs. let e : false ≡ true = sym (ap is_some (no_entry g none u)) ∙ needs.entered in absurd (cc);
    } in
    record {
      parts = parts;
      solves = λ t. subst (SolvesEntry g g.before t) (sym (no_entry g none t)) refl;
      ranked = ranked;
    }

-- ---- protected terms

-- what becomes of a protected definition
abbrev pub Stays : Option TermDef → TermDef → Type 0
Stays now old = (new : TermDef) × (now ≡ Some new) × (new.protected ≡ true) × (without_flag new ≡ without_flag old)

flag_stays : (g : Given) (t : List ℕ) (own : Option Bool) (old : TermDef) → g.change ≡ false → g.before.terms t ≡ Some old → old.protected ≡ true → protected_flag g t own ≡ true
flag_stays g t own old fixed was protected =
    or_right (flag_or g.protect own) (not g.change && is_protected (g.before.terms t)) (ap (λ b. not b && is_protected (g.before.terms t)) fixed ∙ ap is_protected was ∙ protected)

may_keep : (change : Bool) (old new : TermDef) → change ≡ false → old.protected ≡ true → MayReplace change (Some old) new → without_flag new ≡ without_flag old
may_keep change old new fixed protected (inl e) = let x : false ≡ true = sym fixed ∙ e in absurd (cc)
may_keep change old new fixed protected (inr (inl e)) = let x : false ≡ true = sym e ∙ protected in absurd (cc)
may_keep change old new fixed protected (inr (inr same)) = sym same

-- a protected term stays
pub protected_stays : (g : Given) (c : Context) (t : List ℕ) (old : TermDef) → IsContext g c → g.change ≡ false → g.before.terms t ≡ Some old → old.protected ≡ true → Stays (c.terms t) old
protected_stays g c t old p fixed was protected = go (entry g t) refl (p.solves t)
  where
    of_value : (e : ContextEntry) → entry g t ≡ Some e → (w : Option ExpandedDefinition) → SolvesValue g c t e w → Stays (c.terms t) old
    of_value e is None s = absurd s
    of_value e is (Some d) s =
        let new = term_definition g e d (rows c e.key d) in
        let flag = flag_stays g e.key (value_or None (rows c e.key d).protected) old fixed (ap g.before.terms (entry_key g t e is) ∙ was) protected in
        let may : MayReplace g.change (Some old) new = subst (λ o. MayReplace g.change o new) was s.may_replace in
        (new, s.is, flag, may_keep g.change old new fixed protected may)

    go : (o : Option ContextEntry) → entry g t ≡ o → SolvesEntry g c t o → Stays (c.terms t) old
    go None is s = (old, s ∙ was, protected, refl)
    go (Some e) is s = of_value e is (expanded_of (out-Tree e.value)) s
