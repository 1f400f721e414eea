-- Of the entries of a context object nothing counts but the entry of each term.
use Rattle.std.proofs.Common.{◌≡◌, ◌⊎◌, inl, inr, ℕ, List, [], ◌∷◌, ◌++◌, ◌||◌, Option, Some, None, is_some, if◌then◌else◌, Contains, bytes_eq, codes, refl, sym, ap, subst, ◌∙◌}
use Rattle.json_tree.specs.declared.tree.Tree.{Tree, out-Tree}
use Rattle.json_tree.specs.Places.{text_of}
use Rattle.iri_ref.specs.Components.{around_colon}
use Rattle.ld_termdef.specs.Words.{keyword_of, looks_like_keyword}
use Rattle.ld_termdef.specs.Checked.{Fault}
use Rattle.ld_termdef.specs.Contexts.{Context}
use Rattle.ld_termdef.specs.Entries.{ContextEntry, Given, ExpandedDefinition, expanded_of, member_of, entry}
use Rattle.ld_termdef.specs.Needs.{prefix_read, text_looks, looks_of, id_looks, itself_looks, term_looks, mapping_looks, member_text, definition_looks, entry_looks, looks, Needs, Reaches, Ranked}
use Rattle.ld_termdef.specs.Needs.Reaches.{once, more}
use Rattle.ld_termdef.specs.Equation.{HasParts, DefinesTerm, SolvesValue, SolvesEntry, IsContext}
use Rattle.ld_termdef.specs.DefinitionFaults.{SolvesNeeds, IsRedefined, ValueFault, EntryFault, DefinitionFault}
use Rattle.ld_termdef.specs.DefinitionFaults.DefinitionFault.{cyclic, inside}

-- ---- what is looked up

text_alike : (g h : Given) → g.before ≡ h.before → ((t : List ℕ) → entry g t ≡ entry h t) → (text : List ℕ) → text_looks g text ≡ text_looks h text
text_alike g h active same text =
    λ j. if is_some (keyword_of text) || looks_like_keyword text then [] else text ∷ (if is_some (same text j) || is_some ((active j).terms text) then [] else prefix_read (around_colon text))

looks_alike : (g h : Given) → g.before ≡ h.before → ((t : List ℕ) → entry g t ≡ entry h t) → (o : Option (List ℕ)) → looks_of g o ≡ looks_of h o
looks_alike g h active same None = refl
looks_alike g h active same (Some text) = text_alike g h active same text

id_alike : (g h : Given) → g.before ≡ h.before → ((t : List ℕ) → entry g t ≡ entry h t) → (t : List ℕ) (o : Option (List ℕ)) → id_looks g t o ≡ id_looks h t o
id_alike g h active same t None = refl
id_alike g h active same t (Some text) =
    ap (λ texts. if bytes_eq text t then term_looks t (keyword_of t) else texts ++ itself_looks t) (text_alike g h active same text)

mapping_alike : (g h : Given) → g.before ≡ h.before → ((t : List ℕ) → entry g t ≡ entry h t) → (t : List ℕ) (reverse id : Option Tree) → mapping_looks g t reverse id ≡ mapping_looks h t reverse id
mapping_alike g h active same t (Some reverse) id = looks_alike g h active same (text_of reverse)
mapping_alike g h active same t None (Some id) = id_alike g h active same t (text_of id)
mapping_alike g h active same t None None = refl

definition_alike : (g h : Given) → g.before ≡ h.before → ((t : List ℕ) → entry g t ≡ entry h t) → (t : List ℕ) (o : Option ExpandedDefinition) → definition_looks g t o ≡ definition_looks h t o
definition_alike g h active same t None = refl
definition_alike g h active same t (Some d) =
    let first = mapping_alike g h active same t (member_of (codes "@reverse") d) (member_of (codes "@id") d) in
    let second = looks_alike g h active same (member_text (member_of (codes "@type") d)) in
    let third = looks_alike g h active same (member_text (member_of (codes "@index") d)) in
    λ j. first j ++ second j ++ third j

entry_alike : (g h : Given) → g.before ≡ h.before → ((t : List ℕ) → entry g t ≡ entry h t) → (o : Option ContextEntry) → entry_looks g o ≡ entry_looks h o
entry_alike g h active same None = refl
entry_alike g h active same (Some e) = definition_alike g h active same e.key (expanded_of (out-Tree e.value))

needs_alike : (g h : Given) → g.before ≡ h.before → ((t : List ℕ) → entry g t ≡ entry h t) → (t u : List ℕ) → Needs g t u → Needs h t u
needs_alike g h active same t u n =
    let texts : looks g t ≡ looks h t = entry_alike g h active same (entry g t) ∙ ap (entry_looks h) (same t) in
    record { looked = subst (λ us. Contains us u) texts n.looked; entered = sym (ap is_some (same u)) ∙ n.entered }

-- what is given with the entry of each term alike
pub record Alike (g h : Given) : Type 0 where
  pub before : g.before ≡ h.before
  pub protect : g.protect ≡ h.protect
  pub change : g.change ≡ h.change
  pub same : (t : List ℕ) → entry g t ≡ entry h t

-- the other way round
pub alike-sym : (g h : Given) → Alike g h → Alike h g
alike-sym g h a = record { before = sym a.before; protect = sym a.protect; change = sym a.change; same = λ t. sym (a.same t) }

-- ---- the equation

-- the entries do not matter where an entry is at hand
with_entries : (g h : Given) → Alike g h → record g { entries = h.entries } ≡ h
with_entries g h a = λ j. record { before = a.before j; entries = h.entries; protect = a.protect j; change = a.change j }

defines_with : (g h : Given) (c : Context) (t : List ℕ) (e : ContextEntry) (d : ExpandedDefinition) → DefinesTerm g c t e d → DefinesTerm (record g { entries = h.entries }) c t e d
defines_with g h c t e d s = record { no_fault = s.no_fault; may_replace = s.may_replace; is = s.is }

value_alike : (g h : Given) → Alike g h → (c : Context) (t : List ℕ) (e : ContextEntry) (o : Option ExpandedDefinition) → SolvesValue g c t e o → SolvesValue h c t e o
value_alike g h a c t e None s = s
value_alike g h a c t e (Some d) s =
    subst (λ (k : Given). DefinesTerm k c t e d) (with_entries g h a) (defines_with g h c t e d s)

solves_alike : (g h : Given) → Alike g h → (c : Context) (t : List ℕ) (o : Option ContextEntry) → SolvesEntry g c t o → SolvesEntry h c t o
solves_alike g h a c t None s = s ∙ ap (λ (d : Context). d.terms t) a.before
solves_alike g h a c t (Some e) s = value_alike g h a c t e (expanded_of (out-Tree e.value)) s

parts_alike : (g h : Given) → Alike g h → (c : Context) → HasParts g c → HasParts h c
parts_alike g h a c p = record {
  base = p.base ∙ ap (λ (d : Context). d.base) a.before;
  vocab = p.vocab ∙ ap (λ (d : Context). d.vocab) a.before;
  language = p.language ∙ ap (λ (d : Context). d.language) a.before;
  direction = p.direction ∙ ap (λ (d : Context). d.direction) a.before;
}

-- the results are the same
pub result_alike : (g h : Given) → Alike g h → (c : Context) → IsContext g c → IsContext h c
result_alike g h a c p =
    let ranked : Ranked h = record {
      rank = p.ranked.rank;
      falls = λ t u n. p.ranked.falls t u (needs_alike h g (sym a.before) (λ t. sym (a.same t)) t u n);
    } in
    record {
      parts = parts_alike g h a c p.parts;
      solves = λ t. subst (SolvesEntry h c t) (a.same t) (solves_alike g h a c t (entry g t) (p.solves t));
      ranked = ranked;
    }

-- ---- the faults

reaches_alike : (g h : Given) → Alike g h → (t u : List ℕ) → Reaches g t u → Reaches h t u
reaches_alike g h a _ _ (once t u n) = once t u (needs_alike g h a.before a.same t u n)
reaches_alike g h a _ _ (more t u w n rest) = more t u w (needs_alike g h a.before a.same t u n) (reaches_alike g h a u w rest)

redefined_with : (g h : Given) (c : Context) (e : ContextEntry) (d : ExpandedDefinition) (x : Fault) → IsRedefined g c e d x → IsRedefined (record g { entries = h.entries }) c e d x
redefined_with g h c e d x f = record { no_fault = f.no_fault; refused = f.refused; is = f.is }

value_fault_alike : (g h : Given) → Alike g h → (c : Context) (e : ContextEntry) (x : Fault) (o : Option ExpandedDefinition) → ValueFault g c e o x → ValueFault h c e o x
value_fault_alike g h a c e x None f = f
value_fault_alike g h a c e x (Some d) (inl f) = inl f
value_fault_alike g h a c e x (Some d) (inr f) =
    inr (subst (λ (k : Given). IsRedefined k c e d x) (with_entries g h a) (redefined_with g h c e d x f))

fault_alike : (g h : Given) → Alike g h → (c : Context) (x : Fault) (o : Option ContextEntry) → EntryFault g c o x → EntryFault h c o x
fault_alike g h a c x None f = f
fault_alike g h a c x (Some e) f = value_fault_alike g h a c e x (expanded_of (out-Tree e.value)) f

reached_or : (g h : Given) → Alike g h → (s t : List ℕ) → (s ≡ t) ⊎ Reaches g t s → (s ≡ t) ⊎ Reaches h t s
reached_or g h a s t (inl e) = inl e
reached_or g h a s t (inr r) = inr (reaches_alike g h a t s r)

needed_alike : (g h : Given) → Alike g h → (c : Context) (t : List ℕ) → SolvesNeeds g c t → SolvesNeeds h c t
needed_alike g h a c t n =
    let back : Alike h g = alike-sym g h a in
    record {
      parts = parts_alike g h a c n.parts;
      without_entry = λ u none. n.without_entry u (a.same u ∙ none) ∙ ap (λ (d : Context). d.terms u) a.before;
      needed = λ u r. subst (SolvesEntry h c u) (a.same u) (solves_alike g h a c u (entry g u) (n.needed u (reaches_alike h g back t u r)));
      rank = n.rank;
      falls = λ s u r needs. n.falls s u (reached_or h g back s t r) (needs_alike h g back.before back.same s u needs);
    }

-- the faults are the same
pub faults_alike : (g h : Given) → Alike g h → (x : Fault) → DefinitionFault g x → DefinitionFault h x
faults_alike g h a x (cyclic t e f) =
    cyclic t e (record { needs_itself = reaches_alike g h a t t f.needs_itself; entered = sym (a.same t) ∙ f.entered; is = f.is })
faults_alike g h a x (inside t c n f) =
    inside t c (needed_alike g h a c t n) (subst (λ o. EntryFault h c o x) (a.same t) (fault_alike g h a c x (entry g t) f))
