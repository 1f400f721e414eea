-- A result in the making: what one term more does to it, and what it says of faults and at the end.
use Rattle.std.proofs.Common.{◌≡◌, ◌⊎◌, inl, inr, ℕ, ◌+◌, ◌<◌, ◌≤◌, List, [], ◌∷◌, Bool, true, false, Option, Some, None, is_some, Contains, bytes_eq, if◌then◌else◌, refl, sym, ap, subst, ◌∙◌, arith}
use Rattle.base_types.proofs.Lists.{Contains-nil}
use Rattle.base_types.proofs.Orders.{bytes_eq-same, bytes_eq-false}
use Rattle.json_tree.specs.declared.tree.Tree.{out-Tree}
use Rattle.ld_termdef.specs.declared.definition.TermDef.{TermDef}
use Rattle.ld_termdef.specs.Checked.{Fault}
use Rattle.ld_termdef.specs.Contexts.{Context}
use Rattle.ld_termdef.specs.Entries.{ContextEntry, Given, ExpandedDefinition, expanded_of, entry}
use Rattle.ld_termdef.specs.Rows.{Rows, rows, row_faults}
use Rattle.ld_termdef.specs.Definitions.{term_definition, MayReplace}
use Rattle.ld_termdef.specs.Needs.{entry_looks, looks, Needs, Reaches, Ranked}
use Rattle.ld_termdef.specs.Needs.Reaches.{once, more}
use Rattle.ld_termdef.specs.Equation.{HasParts, DefinesTerm, SolvesValue, SolvesEntry, Solves, IsContext}
use Rattle.ld_termdef.specs.DefinitionFaults.{SolvesNeeds, EntryFault, DefinitionFault}
use Rattle.ld_termdef.specs.DefinitionFaults.DefinitionFault.{inside}
use Rattle.ld_termdef.proofs.Making.{IsPartial, Gives, Adds}
use Rattle.ld_termdef.proofs.Unique.{AgreeOn}
use Rattle.ld_termdef.proofs.Solutions.{entry_key, has_definition, agrees, entry_rows_same}

-- ---- one term more

-- the context d is c with this definition of the term t
pub record OneMore (c d : Context) (t : List ℕ) (made : TermDef) : Type 0 where
  pub base : d.base ≡ c.base
  pub vocab : d.vocab ≡ c.vocab
  pub language : d.language ≡ c.language
  pub direction : d.direction ≡ c.direction
  pub here : d.terms t ≡ Some made
  pub others : (u : List ℕ) → (t ≡ u → ⊥) → d.terms u ≡ c.terms u

-- one term more is made, whose entry gives this definition, and whose needs are made
pub record Makes (g : Given) (c d : Context) (Made After : List ℕ → Type 0) (t : List ℕ) (e : ContextEntry) (w : ExpandedDefinition) (made : TermDef) : Type 0 where
  pub partial : IsPartial g c Made
  pub adds : Adds Made t After
  pub one : OneMore c d t made
  pub entered : entry g t ≡ Some e
  pub expanded : expanded_of (out-Tree e.value) ≡ Some w
  pub gives : Gives g c e w made
  pub needs : (u : List ℕ) → Needs g t u → Made u
  pub unmade : Made t → ⊥

-- the greater of what is next and what was, by whether this is the new term
abbrev rank_with : List ℕ → ℕ → (List ℕ → ℕ) → List ℕ → ℕ
rank_with t bound rank u = if bytes_eq t u then bound + 1 else rank u

rank_here : (t : List ℕ) (bound : ℕ) (rank : List ℕ → ℕ) (u : List ℕ) → t ≡ u → rank_with t bound rank u ≡ bound + 1
rank_here t bound rank u same = ap (λ (b : Bool). if b then bound + 1 else rank u) (bytes_eq-same t u same)

rank_other : (t : List ℕ) (bound : ℕ) (rank : List ℕ → ℕ) (u : List ℕ) → (t ≡ u → ⊥) → rank_with t bound rank u ≡ rank u
rank_other t bound rank u other = ap (λ (b : Bool). if b then bound + 1 else rank u) (bytes_eq-false t u other)

module _ (g : Given) (c d : Context) (Made After : List ℕ → Type 0) (t : List ℕ) (e : ContextEntry) (w : ExpandedDefinition) (made : TermDef) (m : Makes g c d Made After t e w made) where
  other : (u : List ℕ) → Made u → t ≡ u → ⊥
  other u is same = m.unmade (subst Made (sym same) is)

  without : (u : List ℕ) → entry g u ≡ None → d.terms u ≡ g.before.terms u
  without u none =
      m.one.others u (λ same. let x : None ≡ Some e = sym none ∙ ap (entry g) (sym same) ∙ m.entered in absurd (cc)) ∙ m.partial.without_entry u none

  -- the contexts agree on what is looked up for a term whose needs are made
  agree_at : (s : List ℕ) → ((u : List ℕ) → Needs g s u → Made u) → AgreeOn g (looks g s) c d
  agree_at s needs = agrees g c d (looks g s) m.partial.without_entry without (λ u at is.
      let n : Needs g s u = record { looked = at; entered = is } in
      let known : Made u = needs u n in
      (sym (m.one.others u (other u known)), has_definition g c u (entry g u) (m.partial.solves u known) is))

  still_value : (u : List ℕ) (f : ContextEntry) → Made u → entry g u ≡ Some f → (o : Option ExpandedDefinition) → expanded_of (out-Tree f.value) ≡ o → SolvesValue g c u f o → SolvesValue g d u f o
  still_value u f is at None of s = s
  still_value u f is at (Some x) of s =
      let same : rows c f.key x ≡ rows d f.key x = entry_rows_same g c d u f x at of (sym m.one.vocab) (agree_at u (λ v n. m.partial.closed u v is n)) in
      record {
        no_fault = subst (λ (r : Rows). row_faults f x r ≡ []) same s.no_fault;
        may_replace = subst (λ (r : Rows). MayReplace g.change (g.before.terms u) (term_definition g f x r)) same s.may_replace;
        is = m.one.others u (other u is) ∙ s.is ∙ ap (λ (r : Rows). Some (term_definition g f x r)) same;
      }

  still : (u : List ℕ) → Made u → (o : Option ContextEntry) → entry g u ≡ o → SolvesEntry g c u o → SolvesEntry g d u o
  still u is None at s = m.one.others u (other u is) ∙ s
  still u is (Some f) at s = still_value u f is at (expanded_of (out-Tree f.value)) refl s

  defines : DefinesTerm g d t e w
  defines =
      let same : rows c e.key w ≡ rows d e.key w = entry_rows_same g c d t e w m.entered m.expanded (sym m.one.vocab) (agree_at t m.needs) in
      let may : MayReplace g.change (g.before.terms e.key) (term_definition g e w (rows c e.key w)) = subst (MayReplace g.change (g.before.terms e.key)) m.gives.is m.gives.may_replace in
      let own : MayReplace g.change (g.before.terms t) (term_definition g e w (rows c e.key w)) = subst (λ (k : List ℕ). MayReplace g.change (g.before.terms k) (term_definition g e w (rows c e.key w))) (entry_key g t e m.entered) may in
      record {
        no_fault = subst (λ (r : Rows). row_faults e w r ≡ []) same m.gives.no_fault;
        may_replace = subst (λ (r : Rows). MayReplace g.change (g.before.terms t) (term_definition g e w r)) same own;
        is = m.one.here ∙ ap Some m.gives.is ∙ ap (λ (r : Rows). Some (term_definition g e w r)) same;
      }

  solves_new : Solves g d t
  solves_new = subst (SolvesEntry g d t) (sym m.entered) (subst (SolvesValue g d t e) (sym m.expanded) defines)

  solves_after : (u : List ℕ) → After u → Solves g d u
  solves_after u is = go (m.adds.only u is)
    where
      go : (t ≡ u) ⊎ Made u → Solves g d u
      go (inl same) = subst (Solves g d) same solves_new
      go (inr known) = still u known (entry g u) refl (m.partial.solves u known)

  -- all that a term needs which is made now was made before
  needs_made : (s u : List ℕ) → After s → Needs g s u → Made u
  needs_made s u is n = go (m.adds.only s is)
    where
      go : (t ≡ s) ⊎ Made s → Made u
      go (inl same) = m.needs u (subst (λ (x : List ℕ). Needs g x u) (sym same) n)
      go (inr known) = m.partial.closed s u known n

  bounded_after : (u : List ℕ) → After u → rank_with t m.partial.bound m.partial.rank u ≤ m.partial.bound + 1
  bounded_after u is = go (m.adds.only u is)
    where
      go : (t ≡ u) ⊎ Made u → rank_with t m.partial.bound m.partial.rank u ≤ m.partial.bound + 1
      go (inl same) = let e : rank_with t m.partial.bound m.partial.rank u ≡ m.partial.bound + 1 = rank_here t m.partial.bound m.partial.rank u same in omega arith
      go (inr known) =
          let e : rank_with t m.partial.bound m.partial.rank u ≡ m.partial.rank u = rank_other t m.partial.bound m.partial.rank u (other u known) in
          let less : m.partial.rank u ≤ m.partial.bound = m.partial.bounded u known in
          omega arith

  falls_after : (s u : List ℕ) → After s → Needs g s u → rank_with t m.partial.bound m.partial.rank u < rank_with t m.partial.bound m.partial.rank s
  falls_after s u is n = go (m.adds.only s is)
    where
      go : (t ≡ s) ⊎ Made s → rank_with t m.partial.bound m.partial.rank u < rank_with t m.partial.bound m.partial.rank s
      go (inl same) =
          let known : Made u = needs_made s u is n in
          let here : rank_with t m.partial.bound m.partial.rank s ≡ m.partial.bound + 1 = rank_here t m.partial.bound m.partial.rank s same in
          let there : rank_with t m.partial.bound m.partial.rank u ≡ m.partial.rank u = rank_other t m.partial.bound m.partial.rank u (other u known) in
          let less : m.partial.rank u ≤ m.partial.bound = m.partial.bounded u known in
          omega arith
      go (inr of) =
          let known : Made u = needs_made s u is n in
          let here : rank_with t m.partial.bound m.partial.rank s ≡ m.partial.rank s = rank_other t m.partial.bound m.partial.rank s (other s of) in
          let there : rank_with t m.partial.bound m.partial.rank u ≡ m.partial.rank u = rank_other t m.partial.bound m.partial.rank u (other u known) in
          let less : m.partial.rank u < m.partial.rank s = m.partial.falls s u of n in
          omega arith

  -- the result is partial with this term too
  pub partial_more : IsPartial g d After
  partial_more = record {
    parts = record {
      base = m.one.base ∙ m.partial.parts.base;
      vocab = m.one.vocab ∙ m.partial.parts.vocab;
      language = m.one.language ∙ m.partial.parts.language;
      direction = m.one.direction ∙ m.partial.parts.direction;
    };
    without_entry = without;
    solves = solves_after;
    closed = λ s u is n. m.adds.keeps u (needs_made s u is n);
    rank = rank_with t m.partial.bound m.partial.rank;
    bound = m.partial.bound + 1;
    bounded = bounded_after;
    falls = falls_after;
  }

-- ---- faults

-- what is reached from terms that are made is made
reached_made : (g : Given) (c : Context) (Made : List ℕ → Type 0) → IsPartial g c Made → (t u : List ℕ) → ((v : List ℕ) → Needs g t v → Made v) → Reaches g t u → Made u
reached_made g c Made p _ _ needs (once t u n) = needs u n
reached_made g c Made p _ _ needs (more t v u n rest) = reached_made g c Made p v u (λ w next. p.closed v w (needs v n) next) rest

-- what a term needs is solved where it is made
pub needs_solved : (g : Given) (c : Context) (Made : List ℕ → Type 0) (t : List ℕ) → IsPartial g c Made → (Made t → ⊥) → ((u : List ℕ) → Needs g t u → Made u) → SolvesNeeds g c t
needs_solved g c Made t p unmade needs = record {
  parts = p.parts;
  without_entry = p.without_entry;
  needed = λ u reached. p.solves u (reached_made g c Made p t u needs reached);
  rank = rank_with t p.bound p.rank;
  falls = falls;
}
  where
    other_than : (u : List ℕ) → Made u → t ≡ u → ⊥
    other_than u is same = unmade (subst Made (sym same) is)

    falls : (s u : List ℕ) → (s ≡ t) ⊎ Reaches g t s → Needs g s u → rank_with t p.bound p.rank u < rank_with t p.bound p.rank s
    falls s u (inl same) n =
        let known : Made u = needs u (subst (λ (x : List ℕ). Needs g x u) same n) in
        let here : rank_with t p.bound p.rank s ≡ p.bound + 1 = rank_here t p.bound p.rank s (sym same) in
        let there : rank_with t p.bound p.rank u ≡ p.rank u = rank_other t p.bound p.rank u (other_than u known) in
        let less : p.rank u ≤ p.bound = p.bounded u known in
        omega arith
    falls s u (inr reached) n =
        let of : Made s = reached_made g c Made p t s needs reached in
        let known : Made u = p.closed s u of n in
        let here : rank_with t p.bound p.rank s ≡ p.rank s = rank_other t p.bound p.rank s (other_than s of) in
        let there : rank_with t p.bound p.rank u ≡ p.rank u = rank_other t p.bound p.rank u (other_than u known) in
        let less : p.rank u < p.rank s = p.falls s u of n in
        omega arith

-- so a fault of its entry is one of the definitions
pub fault_here : (g : Given) (c : Context) (Made : List ℕ → Type 0) (t : List ℕ) (e : ContextEntry) (x : Fault) → IsPartial g c Made → (Made t → ⊥) → ((u : List ℕ) → Needs g t u → Made u) → entry g t ≡ Some e → EntryFault g c (Some e) x → DefinitionFault g x
fault_here g c Made t e x p unmade needs is f = inside t c (needs_solved g c Made t p unmade needs) (subst (λ o. EntryFault g c o x) (sym is) f)

-- ---- at the end

-- what needs a term has an entry
pub needs_entry : (g : Given) (t u : List ℕ) → Needs g t u → is_some (entry g t) ≡ true
needs_entry g t u n = go (entry g t) refl
  where
    go : (o : Option ContextEntry) → entry g t ≡ o → is_some (entry g t) ≡ true
    go None is = absurd (Contains-nil u (subst (λ o. Contains (entry_looks g o) u) is n.looked))
    go (Some e) is = ap is_some is

-- where all terms with an entry are made, the result is one
pub all_made : (g : Given) (c : Context) (Made : List ℕ → Type 0) → IsPartial g c Made → ((t : List ℕ) → is_some (entry g t) ≡ true → Made t) → IsContext g c
all_made g c Made p all = record {
  parts = p.parts;
  solves = λ t. solved t (entry g t) refl;
  ranked = record { rank = p.rank; falls = λ t u n. p.falls t u (all t (needs_entry g t u n)) n };
}
  where
    solved : (t : List ℕ) (o : Option ContextEntry) → entry g t ≡ o → Solves g c t
    solved t None is = subst (SolvesEntry g c t) (sym is) (p.without_entry t is)
    solved t (Some e) is = p.solves t (all t (ap is_some is))
