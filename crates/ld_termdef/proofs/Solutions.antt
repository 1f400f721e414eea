-- A context object has at most one result, and a result excludes every fault.
use Rattle.std.proofs.Common.{◌≡◌, inl, inr, ℕ, zero, suc, ◌<◌, List, [], ◌∷◌, Bool, true, false, ◌||◌, Option, Some, None, option_and_then, is_some, cond, if◌then◌else◌, Contains, bytes_eq, refl, sym, ap, subst, ◌∙◌, arith}
use Rattle.base_types.proofs.Lists.{Contains-nil}
use Rattle.base_types.proofs.Orders.{bytes_eq-true}
use Rattle.json_tree.specs.declared.tree.Tree.{out-Tree}
use Rattle.ld_termdef.specs.Checked.{Fault}
use Rattle.ld_termdef.specs.Contexts.{Context}
use Rattle.ld_termdef.specs.Entries.{ContextEntry, Given, ExpandedDefinition, expanded_of, find_entry, is_context_word, is_ignored, counting_entry, entry}
use Rattle.ld_termdef.specs.Rows.{rows, row_faults}
use Rattle.ld_termdef.specs.Definitions.{term_definition, MayReplace}
use Rattle.ld_termdef.specs.Needs.{is_term, definition_looks, entry_looks, looks, Needs, Reaches, Ranked}
use Rattle.ld_termdef.specs.Needs.Reaches.{once, more}
use Rattle.ld_termdef.specs.Equation.{SolvesValue, SolvesEntry, Solves, IsContext}
use Rattle.ld_termdef.specs.DefinitionFaults.{SolvesNeeds, ValueFault, EntryFault, DefinitionFault}
use Rattle.ld_termdef.specs.DefinitionFaults.DefinitionFault.{cyclic, inside}
use Rattle.ld_termdef.proofs.Unique.{AgreeOn, rows_same}

-- ---- the entry of a term has its name

-- what is found has the key
pub find_key : (key : List ℕ) (es : List ContextEntry) (e : ContextEntry) → find_entry key es ≡ Some e → e.key ≡ key
find_key key [] e is = absurd (cc)
find_key key (x ∷ xs) e is = go (find_key key xs e) (bytes_eq x.key key) refl is
  where
    go : (find_entry key xs ≡ Some e → e.key ≡ key) → (same : Bool) → bytes_eq x.key key ≡ same → cond same (Some x) (find_entry key xs) ≡ Some e → e.key ≡ key
    go later true s is = let found : x ≡ e = cc in bytes_eq-true e.key key (subst (λ (z : ContextEntry). bytes_eq z.key key ≡ true) found s)
    go later false s is = later is

-- an entry that counts is the one that was found
pub kept_is : (e f : ContextEntry) (out : Bool) → (if out then None else Some e) ≡ Some f → e ≡ f
kept_is e f true is = absurd (cc)
kept_is e f false is = cc

-- the entry of a term has its key
pub entry_key : (g : Given) (t : List ℕ) (e : ContextEntry) → entry g t ≡ Some e → e.key ≡ t
entry_key g t e is = go (find_entry t g.entries) refl is
  where
    go : (o : Option ContextEntry) → find_entry t g.entries ≡ o → option_and_then counting_entry o ≡ Some e → e.key ≡ t
    go None found is = absurd (cc)
    go (Some f) found is = let same : f ≡ e = kept_is f e (is_context_word f.key || is_ignored f) is in ap (λ (z : ContextEntry). z.key) (sym same) ∙ find_key t g.entries f found

-- ---- where two contexts solve the equation at terms that need no others

-- Both solve the equation at the terms of a set, which need terms of the set alone, and a rank falls
-- along that.
pub record BothSolve (g : Given) (c d : Context) (P : List ℕ → Type 0) : Type 0 where
  pub vocab : c.vocab ≡ d.vocab
  pub one_without : (u : List ℕ) → entry g u ≡ None → c.terms u ≡ g.before.terms u
  pub other_without : (u : List ℕ) → entry g u ≡ None → d.terms u ≡ g.before.terms u
  pub one_solves : (u : List ℕ) → P u → Solves g c u
  pub other_solves : (u : List ℕ) → P u → Solves g d u

-- a term with an entry has a definition where the equation is solved
pub has_definition : (g : Given) (c : Context) (u : List ℕ) (o : Option ContextEntry) → SolvesEntry g c u o → is_some o ≡ true → is_some (c.terms u) ≡ true
has_definition g c u None s is = absurd (cc)
has_definition g c u (Some e) s is = go (expanded_of (out-Tree e.value)) s
  where
    go : (w : Option ExpandedDefinition) → SolvesValue g c u e w → is_some (c.terms u) ≡ true
    go None s = absurd s
    go (Some w) s = ap is_some s.is

-- both agree on texts, where they say the same of those with an entry
pub agrees : (g : Given) (c d : Context) (texts : List (List ℕ)) → ((u : List ℕ) → entry g u ≡ None → c.terms u ≡ g.before.terms u) → ((u : List ℕ) → entry g u ≡ None → d.terms u ≡ g.before.terms u) → ((u : List ℕ) → Contains texts u → is_some (entry g u) ≡ true → (c.terms u ≡ d.terms u) × (is_some (c.terms u) ≡ true)) → AgreeOn g texts c d
agrees g c d texts one other same u at = go (entry g u) refl
  where
    go : (o : Option ContextEntry) → entry g u ≡ o → (c.terms u ≡ d.terms u) × (is_some (c.terms u) ≡ is_term g u)
    go None is = (one u is ∙ sym (other u is), ap is_some (one u is) ∙ sym (ap (λ o. is_some o || is_some (g.before.terms u)) is))
    go (Some e) is = let s = same u at (ap is_some is) in (s.0, s.1 ∙ sym (ap (λ o. is_some o || is_some (g.before.terms u)) is))

-- the rows of the entry are the same
pub entry_rows_same : (g : Given) (c d : Context) (t : List ℕ) (e : ContextEntry) (w : ExpandedDefinition) → entry g t ≡ Some e → expanded_of (out-Tree e.value) ≡ Some w → c.vocab ≡ d.vocab → AgreeOn g (looks g t) c d → rows c e.key w ≡ rows d e.key w
entry_rows_same g c d t e w is of v same =
    rows_same g c d e.key w v (subst (λ texts. AgreeOn g texts c d) (ap (entry_looks g) is ∙ ap (definition_looks g e.key) of) same)

entry_same : (g : Given) (c d : Context) (t : List ℕ) (o : Option ContextEntry) → entry g t ≡ o → c.vocab ≡ d.vocab → AgreeOn g (looks g t) c d → SolvesEntry g c t o → SolvesEntry g d t o → c.terms t ≡ d.terms t
entry_same g c d t None is v same p q = p ∙ sym q
entry_same g c d t (Some e) is v same p q = go (expanded_of (out-Tree e.value)) refl p q
  where
    go : (o : Option ExpandedDefinition) → expanded_of (out-Tree e.value) ≡ o → SolvesValue g c t e o → SolvesValue g d t e o → c.terms t ≡ d.terms t
    go None of p q = absurd p
    go (Some w) of p q = p.is ∙ ap (λ r. Some (term_definition g e w r)) (entry_rows_same g c d t e w is of v same) ∙ sym q.is

module _ (g : Given) (c d : Context) (P : List ℕ → Type 0) (rank : List ℕ → ℕ) (s : BothSolve g c d P) (closed : (t u : List ℕ) → P t → Needs g t u → P u) (falls : (t u : List ℕ) → P t → Needs g t u → rank u < rank t) where
  agree_below : (n : ℕ) (t : List ℕ) → rank t < n → P t → c.terms t ≡ d.terms t
  agree_below zero t below p = absurd (omega arith)
  agree_below (suc n) t below p =
      entry_same g c d t (entry g t) refl s.vocab (agrees g c d (looks g t) s.one_without s.other_without (λ u at is.
      let n' : Needs g t u = record { looked = at; entered = is } in
      let q : P u = closed t u p n' in
      let less : rank u < rank t = falls t u p n' in
      (agree_below n u (omega arith) q, has_definition g c u (entry g u) (s.one_solves u q) is))) (s.one_solves t p) (s.other_solves t p)

  -- they are the same there
  agree : (t : List ℕ) → P t → c.terms t ≡ d.terms t
  agree t p = agree_below (suc (rank t)) t (omega arith) p

-- ---- one result

without_entry : (g : Given) (c : Context) → ((t : List ℕ) → Solves g c t) → (u : List ℕ) → entry g u ≡ None → c.terms u ≡ g.before.terms u
without_entry g c solves u is = subst (SolvesEntry g c u) is (solves u)

-- a context object has at most one result
pub one_result : (g : Given) (c d : Context) → IsContext g c → IsContext g d → c ≡ d
one_result g c d p q =
    let s : BothSolve g c d (λ u. Unit {0}) = record {
      vocab = p.parts.vocab ∙ sym q.parts.vocab;
      one_without = without_entry g c p.solves;
      other_without = without_entry g d q.solves;
      one_solves = λ u all. p.solves u;
      other_solves = λ u all. q.solves u;
    } in
    let base : c.base ≡ d.base = p.parts.base ∙ sym q.parts.base in
    let vocab : c.vocab ≡ d.vocab = p.parts.vocab ∙ sym q.parts.vocab in
    let language : c.language ≡ d.language = p.parts.language ∙ sym q.parts.language in
    let direction : c.direction ≡ d.direction = p.parts.direction ∙ sym q.parts.direction in
    let terms : (t : List ℕ) → c.terms t ≡ d.terms t = λ t. agree g c d (λ u. Unit {0}) p.ranked.rank s (λ t u all needs. tt) (λ t u all needs. p.ranked.falls t u needs) t tt in
    λ i. record { base = base i; vocab = vocab i; language = language i; direction = direction i; terms = λ t. terms t i }

-- ---- a result excludes faults

reaches_falls : (g : Given) (r : Ranked g) (t u : List ℕ) → Reaches g t u → r.rank u < r.rank t
reaches_falls g r _ _ (once t u needs) = r.falls t u needs
reaches_falls g r _ _ (more t u w needs rest) =
    let first : r.rank u < r.rank t = r.falls t u needs in
    let later : r.rank w < r.rank u = reaches_falls g r u w rest in
    omega arith

-- in a result no term needs itself
pub needs_no_itself : (g : Given) (c : Context) (t : List ℕ) → IsContext g c → Reaches g t t → ⊥
needs_no_itself g c t p itself = let less : p.ranked.rank t < p.ranked.rank t = reaches_falls g p.ranked t t itself in omega arith

-- what a step more reaches
pub reaches_more : (g : Given) (t u w : List ℕ) → Reaches g t u → Needs g u w → Reaches g t w
reaches_more g _ _ w (once t u first) needs = more t u w first (once u w needs)
reaches_more g _ _ w (more t v u first rest) needs = more t v w first (reaches_more g v u w rest needs)

no_value_fault : (g : Given) (c r : Context) (t : List ℕ) (e : ContextEntry) (x : Fault) (o : Option ExpandedDefinition) → e.key ≡ t → ((w : ExpandedDefinition) → o ≡ Some w → rows c e.key w ≡ rows r e.key w) → SolvesValue g r t e o → ValueFault g c e o x → ⊥
no_value_fault g c r t e x None key same s f = absurd s
no_value_fault g c r t e x (Some w) key same s (inl f) =
    Contains-nil x (subst (λ fs. Contains fs x) (ap (row_faults e w) (same w refl) ∙ s.no_fault) f)
no_value_fault g c r t e x (Some w) key same s (inr f) =
    let may : MayReplace g.change (g.before.terms e.key) (term_definition g e w (rows r e.key w)) = subst (λ k. MayReplace g.change (g.before.terms k) (term_definition g e w (rows r e.key w))) (sym key) s.may_replace in
    f.refused (subst (λ z. MayReplace g.change (g.before.terms e.key) (term_definition g e w z)) (sym (same w refl)) may)

no_entry_fault : (g : Given) (c r : Context) (t : List ℕ) (x : Fault) (o : Option ContextEntry) → entry g t ≡ o → c.vocab ≡ r.vocab → AgreeOn g (looks g t) c r → SolvesEntry g r t o → EntryFault g c o x → ⊥
no_entry_fault g c r t x None is v same s f = f
no_entry_fault g c r t x (Some e) is v same s f =
    no_value_fault g c r t e x (expanded_of (out-Tree e.value)) (entry_key g t e is) (λ w of. entry_rows_same g c r t e w is of v same) s f

no_inside_fault : (g : Given) (r c : Context) (t : List ℕ) (x : Fault) → IsContext g r → SolvesNeeds g c t → EntryFault g c (entry g t) x → ⊥
no_inside_fault g r c t x p n f =
    let v : c.vocab ≡ r.vocab = n.parts.vocab ∙ sym p.parts.vocab in
    let s : BothSolve g c r (Reaches g t) = record {
      vocab = v;
      one_without = n.without_entry;
      other_without = without_entry g r p.solves;
      one_solves = n.needed;
      other_solves = λ u reached. p.solves u;
    } in
    let same : AgreeOn g (looks g t) c r = agrees g c r (looks g t) n.without_entry (without_entry g r p.solves) (λ u at is.
    let first : Reaches g t u = once t u (record { looked = at; entered = is }) in
    (agree g c r (Reaches g t) p.ranked.rank s (λ s u reached needs. reaches_more g t s u reached needs) (λ s u reached needs. p.ranked.falls s u needs) u first, has_definition g c u (entry g u) (n.needed u first) is)) in
    no_entry_fault g c r t x (entry g t) refl v same (p.solves t) f

-- a result excludes every fault
pub no_fault : (g : Given) (r : Context) (x : Fault) → IsContext g r → DefinitionFault g x → ⊥
no_fault g r x p (cyclic t e f) = needs_no_itself g r t p f.needs_itself
no_fault g r x p (inside t c n f) = no_inside_fault g r c t x p n f

-- ---- terms with an entry and without one

-- a term without an entry keeps its definition
pub stays_without : (g : Given) (c : Context) (t : List ℕ) → IsContext g c → entry g t ≡ None → c.terms t ≡ g.before.terms t
stays_without g c t p is = without_entry g c p.solves t is

-- an ignored entry defines nothing
kept_not : (e : ContextEntry) (out : Bool) (ignored : Bool) → ignored ≡ true → (if out || ignored then None else Some e) ≡ None
kept_not e true ignored is = refl
kept_not e false true is = refl
kept_not e false false is = absurd (cc)

-- so does one whose entry is ignored
pub stays_ignored : (g : Given) (c : Context) (t : List ℕ) (e : ContextEntry) → IsContext g c → find_entry t g.entries ≡ Some e → is_ignored e ≡ true → c.terms t ≡ g.before.terms t
stays_ignored g c t e p found is =
    stays_without g c t p (ap (option_and_then counting_entry) found ∙ kept_not e (is_context_word e.key) (is_ignored e) is)

-- a term with an entry has a definition
pub defined_with : (g : Given) (c : Context) (t : List ℕ) → IsContext g c → is_some (entry g t) ≡ true → is_some (c.terms t) ≡ true
defined_with g c t p is = has_definition g c t (entry g t) (p.solves t) is
