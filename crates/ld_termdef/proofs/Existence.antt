-- Where the entries of a context object have no fault they have a result: what a term needs is made before it, and as
-- many terms may be in progress as there are entries.
use Rattle.std.proofs.Common.{◌≡◌, ◌⊎◌, inl, inr, ℕ, zero, suc, ◌+◌, ◌-◌, ◌<◌, ◌≤◌, List, [], ◌∷◌, map, length, get_or, Bool, true, false, cond, if◌then◌else◌, Option, Some, None, option_map, is_some, Contains, bytes_eq, refl, sym, ap, subst, ◌∙◌, arith}
use Rattle.std.specs.List.{remove}
use Rattle.std.proofs.lemmas.Bool.{cases_lt, false≢true}
use Rattle.std.proofs.lemmas.List.{get_or_default}
use Rattle.std.proofs.lemmas.List.Edits.{length-remove, get_or-remove_below, get_or-remove_above}
use Rattle.std.proofs.lemmas.Option.{none-some}
use Rattle.base_types.specs.Sets.{AllDiffer}
use Rattle.base_types.proofs.Lists.{Contains-nil, Contains-here, Contains-there, Contains-cons_cases, Contains-map}
use Rattle.base_types.proofs.Orders.{bytes_eq-true, bytes_eq-same, bytes_eq-false}
use Rattle.json_tree.specs.declared.tree.Tree.{out-Tree}
use Rattle.json_tree.specs.Equality.{same_by, same_by-Decides}
use Rattle.ld_words.specs.declared.code_table.Code.TheVariants as error
use Rattle.ld_termdef.specs.declared.definition.TermDef.{TermDef}
use Rattle.ld_termdef.specs.declared.definition.TermEntry.{TermEntry}
use Rattle.ld_termdef.specs.contracts.definition.TermDef as definition
use Rattle.ld_termdef.specs.Checked.{Fault, fault}
use Rattle.ld_termdef.specs.Contexts.{Context, definition_in}
use Rattle.ld_termdef.specs.Entries.{ContextEntry, Given, ExpandedDefinition, expanded_of, find_entry, is_context_word, is_ignored, entry, entry_place}
use Rattle.ld_termdef.specs.Rows.{rows, row_faults}
use Rattle.ld_termdef.specs.Definitions.{term_definition, without_flag, MayReplace}
use Rattle.ld_termdef.specs.Needs.{looks, Needs, Reaches}
use Rattle.ld_termdef.specs.Equation.{IsContext}
use Rattle.ld_termdef.specs.DefinitionFaults.{IsCyclic, EntryFault, ValueFault, DefinitionFault}
use Rattle.ld_termdef.specs.DefinitionFaults.DefinitionFault.{cyclic}
use Rattle.ld_termdef.proofs.Making.{IsPartial, Gives, IsChain, IsMaking, Adds}
use Rattle.ld_termdef.proofs.Laying.{definition-first}
use Rattle.ld_termdef.proofs.Merging.{own-definition}
use Rattle.ld_termdef.proofs.Solutions.{entry_key, find_key, kept_is}
use Rattle.ld_termdef.proofs.Partial.{OneMore, Makes, fault_here, all_made}
use Rattle.ld_termdef.proofs.Chains.{differ-first, differ-rest, chain_cycle, making_start, MayBegin, making_push, making_made}

-- ---- texts are the same or not, and an entry that is found stands there

same_text : (x y : List ℕ) → (x ≡ y) ⊎ (x ≡ y → ⊥)
same_text x y = go (bytes_eq x y) refl
  where
    go : (b : Bool) → bytes_eq x y ≡ b → (x ≡ y) ⊎ (x ≡ y → ⊥)
    go true is = inl (bytes_eq-true x y is)
    go false is = inr (λ same. false≢true (sym is ∙ bytes_eq-same x y same))

find-contains : (key : List ℕ) (es : List ContextEntry) (e : ContextEntry) → find_entry key es ≡ Some e → Contains es e
find-contains key [] e is = absurd (none-some e is)
find-contains key (x ∷ xs) e is = go (find-contains key xs e) (bytes_eq x.key key) is
  where
    go : (find_entry key xs ≡ Some e → Contains xs e) → (same : Bool) → cond same (Some x) (find_entry key xs) ≡ Some e → Contains (x ∷ xs) e
    go later true is = let equal : x ≡ e = cc is in subst (Contains (x ∷ xs)) equal (Contains-here x xs)
    go later false is = Contains-there x xs e (later is)

-- ---- elements that differ are no more than those among which they stand

-- another element stays where one is taken out
stays-in : {X : Type 0} (ys : List X) (k : ℕ) (x z : X) → k < length ys → get_or ys k x ≡ x → (x ≡ z → ⊥) → Contains ys z → Contains (remove ys k) z
stays-in ys k x z within here other at = go (length-remove ys k within) (cases_lt at.0 k) (cases_lt k at.0)
  where
    go : length (remove ys k) + 1 ≡ length ys → (at.0 < k) ⊎ (k ≤ at.0) → (k < at.0) ⊎ (at.0 ≤ k) → Contains (remove ys k) z
    go size (inl less) more = (at.0, (omega (arith, at.1)), (get_or-remove_below ys k z at.0 less within ∙ at.2))
    go size (inr from) (inl less) =
        let place : at.0 - 1 + 1 ≡ at.0 = omega arith in
        (at.0 - 1, (omega (arith, at.1)), (get_or-remove_above ys k z (at.0 - 1) (omega arith) within ∙ ap (λ (j : ℕ). get_or ys j z) place ∙ at.2))
    go size (inr from) (inr upto) =
        let same : at.0 ≡ k = omega arith in
        absurd (other (sym here ∙ get_or_default ys k x z within ∙ ap (λ (j : ℕ). get_or ys j z) (sym same) ∙ at.2))

no_more : {X : Type 0} (xs ys : List X) → AllDiffer xs → ((x : X) → Contains xs x → Contains ys x) → length xs ≤ length ys
no_more [] ys all inside = omega arith
no_more (x ∷ xs) ys all inside =
    let at = inside x (Contains-here x xs) in
    let size : length (remove ys at.0) + 1 ≡ length ys = length-remove ys at.0 at.1 in
    let rest : length xs ≤ length (remove ys at.0) = no_more xs (remove ys at.0) (differ-rest x xs all) (λ z m. stays-in ys at.0 x z at.1 at.2 (differ-first x xs z all m) (inside z (Contains-there x xs z m))) in
    omega arith

-- a text is among others or it is not
is_among : (ts : List (List ℕ)) (u : List ℕ) → Contains ts u ⊎ (Contains ts u → ⊥)
is_among [] u = inr (Contains-nil u)
is_among (t ∷ ts) u = go (same_text t u) (is_among ts u)
  where
    go : (t ≡ u) ⊎ (t ≡ u → ⊥) → Contains ts u ⊎ (Contains ts u → ⊥) → Contains (t ∷ ts) u ⊎ (Contains (t ∷ ts) u → ⊥)
    go (inl same) rest = inl (subst (Contains (t ∷ ts)) same (Contains-here t ts))
    go (inr other) (inl at) = inl (Contains-there t ts u at)
    go (inr other) (inr away) = inr (λ at. neither (Contains-cons_cases t ts u at))
      where
        neither : (t ≡ u) ⊎ Contains ts u → ⊥
        neither (inl same) = other same
        neither (inr at) = away at

-- ---- whether a definition may take the place of another

may_decide : (change : Bool) (o : Option TermDef) (new : TermDef) → MayReplace change o new ⊎ (MayReplace change o new → ⊥)
may_decide change None new = inl tt
may_decide true (Some old) new = inl (inl refl)
may_decide false (Some old) new = go old.protected refl (same_by definition.the_row.coded (without_flag old) (without_flag new)) refl
  where
    go : (flag : Bool) → old.protected ≡ flag → (same : Bool) → same_by definition.the_row.coded (without_flag old) (without_flag new) ≡ same → MayReplace false (Some old) new ⊎ (MayReplace false (Some old) new → ⊥)
    go false is same test = inl (inr (inl is))
    go true is true test = inl (inr (inr ((same_by-Decides definition.the_row.coded (without_flag old) (without_flag new)).0 test)))
    go true is false test = inr no
      where
        no : MayReplace false (Some old) new → ⊥
        no (inl e) = false≢true e
        no (inr (inl e)) = false≢true (sym e ∙ is)
        no (inr (inr e)) = false≢true (sym test ∙ (same_by-Decides definition.the_row.coded (without_flag old) (without_flag new)).1 e)

-- ---- what is made, as a list

abbrev terms_with : Given → List TermEntry → List ℕ → Option TermDef
terms_with g ms t = if is_some (entry g t) then definition_in ms t else g.before.terms t

abbrev context_with : Given → List TermEntry → Context
context_with g ms = record g.before { terms = λ t. terms_with g ms t }

abbrev MadeIn : List TermEntry → List ℕ → Type 0
MadeIn ms t = is_some (definition_in ms t) ≡ true

abbrev new_entry : List ℕ → TermDef → TermEntry
new_entry t made = record { term = t; def = made }

here-more : (ms : List TermEntry) (t : List ℕ) (made : TermDef) (u : List ℕ) → t ≡ u → definition_in (new_entry t made ∷ ms) u ≡ Some made
here-more ms t made u same = definition-first (new_entry t made) ms u ∙ ap (λ (b : Bool). cond b (Some made) (definition_in ms u)) (bytes_eq-same t u same)

other-more : (ms : List TermEntry) (t : List ℕ) (made : TermDef) (u : List ℕ) → (t ≡ u → ⊥) → definition_in (new_entry t made ∷ ms) u ≡ definition_in ms u
other-more ms t made u other = definition-first (new_entry t made) ms u ∙ ap (λ (b : Bool). cond b (Some made) (definition_in ms u)) (bytes_eq-false t u other)

one_with : (g : Given) (ms : List TermEntry) (t : List ℕ) (e : ContextEntry) (made : TermDef) → entry g t ≡ Some e → OneMore (context_with g ms) (context_with g (new_entry t made ∷ ms)) t made
one_with g ms t e made at = record {
  base = refl;
  vocab = refl;
  language = refl;
  direction = refl;
  here = ap (λ (o : Option ContextEntry). if is_some o then definition_in (new_entry t made ∷ ms) t else g.before.terms t) at ∙ here-more ms t made t refl;
  others = λ u other. ap (λ (o : Option TermDef). if is_some (entry g u) then o else g.before.terms u) (other-more ms t made u other);
}

adds-with : (ms : List TermEntry) (t : List ℕ) (made : TermDef) → Adds (MadeIn ms) t (MadeIn (new_entry t made ∷ ms))
adds-with ms t made = record {
  new = ap is_some (here-more ms t made t refl);
  keeps = λ u was. keeps u was (same_text t u);
  only = λ u is. only u is (same_text t u);
}
  where
    keeps : (u : List ℕ) → MadeIn ms u → (t ≡ u) ⊎ (t ≡ u → ⊥) → MadeIn (new_entry t made ∷ ms) u
    keeps u was (inl same) = ap is_some (here-more ms t made u same)
    keeps u was (inr other) = ap is_some (other-more ms t made u other) ∙ was

    only : (u : List ℕ) → MadeIn (new_entry t made ∷ ms) u → (t ≡ u) ⊎ (t ≡ u → ⊥) → (t ≡ u) ⊎ MadeIn ms u
    only u is (inl same) = inl same
    only u is (inr other) = inr (sym (ap is_some (other-more ms t made u other)) ∙ is)

-- at first nothing is made
start_with : (g : Given) → IsPartial g (context_with g []) (MadeIn [])
start_with g = record {
  parts = record { base = refl; vocab = refl; language = refl; direction = refl };
  without_entry = λ u none. ap (λ (o : Option ContextEntry). if is_some o then None else g.before.terms u) none;
  solves = λ u made. absurd (false≢true made);
  closed = λ t u made needs. absurd (false≢true made);
  rank = λ t. 0;
  bound = 0;
  bounded = λ u made. absurd (false≢true made);
  falls = λ t u made needs. absurd (false≢true made);
}

-- what is made later, with a term
record Later (g : Given) (ms : List TermEntry) (ps : List (List ℕ)) (t : List ℕ) : Type 0 where
  after : List TermEntry
  making : IsMaking g (context_with g after) (MadeIn after) ps
  keeps : (u : List ℕ) → MadeIn ms u → MadeIn after u
  made : MadeIn after t

-- and with all of these that have an entry
record AllLater (g : Given) (ms : List TermEntry) (ps us : List (List ℕ)) : Type 0 where
  after : List TermEntry
  making : IsMaking g (context_with g after) (MadeIn after) ps
  keeps : (u : List ℕ) → MadeIn ms u → MadeIn after u
  all : (u : List ℕ) → Contains us u → is_some (entry g u) ≡ true → MadeIn after u

-- the definition that an entry gives
record GivesSome (g : Given) (c : Context) (e : ContextEntry) : Type 0 where
  expanded : ExpandedDefinition
  is : expanded_of (out-Tree e.value) ≡ Some expanded
  made : TermDef
  gives : Gives g c e expanded made

module _ (g : Given) (fine : (x : Fault) → DefinitionFault g x → ⊥) where
  -- ---- the definition that an entry without a fault gives

  gives_some : (c : Context) (Made : List ℕ → Type 0) (t : List ℕ) (e : ContextEntry) → IsPartial g c Made → (Made t → ⊥) → ((u : List ℕ) → Needs g t u → Made u) → entry g t ≡ Some e → GivesSome g c e
  gives_some c Made t e p unmade needs at = by_value (expanded_of (out-Tree e.value)) refl
    where
      no_fault : (x : Fault) → EntryFault g c (Some e) x → ⊥
      no_fault x f = fine x (fault_here g c Made t e x p unmade needs at f)

      by_may : (w : ExpandedDefinition) → expanded_of (out-Tree e.value) ≡ Some w → row_faults e w (rows c e.key w) ≡ [] → MayReplace g.change (g.before.terms e.key) (term_definition g e w (rows c e.key w)) ⊎ (MayReplace g.change (g.before.terms e.key) (term_definition g e w (rows c e.key w)) → ⊥) → GivesSome g c e
      by_may w is none (inl may) = record {
        expanded = w;
        is = is;
        made = term_definition g e w (rows c e.key w);
        gives = record { no_fault = none; may_replace = may; is = refl };
      }
      by_may w is none (inr refused) =
          let x : Fault = fault error.ProtectedTermRedefinition (entry_place e) in
          absurd (no_fault x (subst (λ (o : Option ExpandedDefinition). ValueFault g c e o x) (sym is) (inr (record { no_fault = none; refused = refused; is = refl }))))

      by_rows : (w : ExpandedDefinition) → expanded_of (out-Tree e.value) ≡ Some w → (xs : List Fault) → row_faults e w (rows c e.key w) ≡ xs → GivesSome g c e
      by_rows w is [] none = by_may w is none (may_decide g.change (g.before.terms e.key) (term_definition g e w (rows c e.key w)))
      by_rows w is (x ∷ xs) some =
          absurd (no_fault x (subst (λ (o : Option ExpandedDefinition). ValueFault g c e o x) (sym is) (inl (subst (λ (ys : List Fault). Contains ys x) (sym some) (Contains-here x xs)))))

      by_value : (o : Option ExpandedDefinition) → expanded_of (out-Tree e.value) ≡ o → GivesSome g c e
      by_value None is =
          let x : Fault = fault error.InvalidTermDefinition (entry_place e) in
          absurd (no_fault x (subst (λ (o : Option ExpandedDefinition). ValueFault g c e o x) (sym is) (inl refl)))
      by_value (Some w) is = by_rows w is (row_faults e w (rows c e.key w)) refl

  -- ---- terms one after the other, each behind those in progress

  -- a term in progress is not needed again
  no_cycle : (ps : List (List ℕ)) (u : List ℕ) (e : ContextEntry) → IsChain g ps → MayBegin g u ps → Contains ps u → entry g u ≡ Some e → ⊥
  no_cycle [] u e chain may at is = Contains-nil u at
  no_cycle (t ∷ ts) u e chain may at is =
      fine (fault error.CyclicIriMapping (entry_place e)) (cyclic u e (record { needs_itself = chain_cycle g t ts u chain at may; entered = is; is = refl }))

  -- one with an entry that is not made is begun
  begun : (ms : List TermEntry) (ps : List (List ℕ)) (u : List ℕ) (e : ContextEntry) → IsMaking g (context_with g ms) (MadeIn ms) ps → MayBegin g u ps → (MadeIn ms u → ⊥) → entry g u ≡ Some e → IsMaking g (context_with g ms) (MadeIn ms) (u ∷ ps)
  begun ms ps u e m may unmade is = making_push g (context_with g ms) (MadeIn ms) u ps m may (λ at. no_cycle ps u e m.chain may at is) unmade (ap is_some is)

  module _ (ps : List (List ℕ)) (step : (ms : List TermEntry) (u : List ℕ) → IsMaking g (context_with g ms) (MadeIn ms) (u ∷ ps) → Later g ms ps u) where
    -- one of them, where it has an entry
    one_later : (ms : List TermEntry) (u : List ℕ) → IsMaking g (context_with g ms) (MadeIn ms) ps → (is_some (entry g u) ≡ true → MayBegin g u ps) → AllLater g ms ps (u ∷ [])
    one_later ms u m may = by_entry (entry g u) refl (definition_in ms u) refl
      where
        only : (v : List ℕ) → Contains (u ∷ []) v → u ≡ v
        only v at = go (Contains-cons_cases u [] v at)
          where
            go : (u ≡ v) ⊎ Contains [] v → u ≡ v
            go (inl same) = same
            go (inr nowhere) = absurd (Contains-nil v nowhere)

        by_entry : (o : Option ContextEntry) → entry g u ≡ o → (d : Option TermDef) → definition_in ms u ≡ d → AllLater g ms ps (u ∷ [])
        by_entry None is d at = record {
          after = ms;
          making = m;
          keeps = λ v was. was;
          all = λ v among entered. absurd (false≢true (sym (ap is_some (ap (entry g) (sym (only v among)) ∙ is)) ∙ entered));
        }
        by_entry (Some e) is (Some d) at = record {
          after = ms;
          making = m;
          keeps = λ v was. was;
          all = λ v among entered. ap is_some (ap (definition_in ms) (sym (only v among)) ∙ at);
        }
        by_entry (Some e) is None at =
            let unmade = λ (made : MadeIn ms u). false≢true (sym (ap is_some at) ∙ made) in
            let l = step ms u (begun ms ps u e m (may (ap is_some is)) unmade is) in
            record {
              after = l.after;
              making = l.making;
              keeps = l.keeps;
              all = λ v among entered. subst (MadeIn l.after) (only v among) l.made;
            }

    -- all of them
    all_later : (ms : List TermEntry) (us : List (List ℕ)) → IsMaking g (context_with g ms) (MadeIn ms) ps → ((u : List ℕ) → Contains us u → is_some (entry g u) ≡ true → MayBegin g u ps) → AllLater g ms ps us
    all_later ms [] m may = record { after = ms; making = m; keeps = λ v was. was; all = λ u at entered. absurd (Contains-nil u at) }
    all_later ms (u ∷ us) m may =
        let first = one_later ms u m (may u (Contains-here u us)) in
        let rest = all_later first.after us first.making (λ v at. may v (Contains-there u us v at)) in
        record {
          after = rest.after;
          making = rest.making;
          keeps = λ v was. rest.keeps v (first.keeps v was);
          all = λ v at. of first.after first.all rest.after rest.keeps rest.all v (Contains-cons_cases u us v at);
        }
      where
        of : (one : List TermEntry) → ((v : List ℕ) → Contains (u ∷ []) v → is_some (entry g v) ≡ true → MadeIn one v) → (two : List TermEntry) → ((v : List ℕ) → MadeIn one v → MadeIn two v) → ((v : List ℕ) → Contains us v → is_some (entry g v) ≡ true → MadeIn two v) → (v : List ℕ) → (u ≡ v) ⊎ Contains us v → is_some (entry g v) ≡ true → MadeIn two v
        of one made two keeps others v (inl same) entered = keeps v (made v (subst (Contains (u ∷ [])) same (Contains-here u [])) entered)
        of one made two keeps others v (inr at) entered = others v at entered

  -- ---- a term, and before it all that it needs

  abbrev keys : List (List ℕ)
  keys = map (λ (e : ContextEntry). e.key) g.entries

  -- a term with an entry is the key of one
  key_among : (t : List ℕ) → is_some (entry g t) ≡ true → Contains keys t
  key_among t entered = go (find_entry t g.entries) refl
    where
      go : (o : Option ContextEntry) → find_entry t g.entries ≡ o → Contains keys t
      go None found = absurd (cc)
      go (Some e) found = subst (Contains keys) (find_key t g.entries e found) (Contains-map (λ (x : ContextEntry). x.key) g.entries e (find-contains t g.entries e found))

  -- the last one in progress, once its needs are made
  finished : (ms : List TermEntry) (t : List ℕ) (ts : List (List ℕ)) (e : ContextEntry) → IsMaking g (context_with g ms) (MadeIn ms) (t ∷ ts) → entry g t ≡ Some e → ((u : List ℕ) → Needs g t u → MadeIn ms u) → Later g ms ts t
  finished ms t ts e m is needs =
      let unmade = m.unmade t (Contains-here t ts) in
      let s = gives_some (context_with g ms) (MadeIn ms) t e m.partial unmade needs is in
      let adds : Adds (MadeIn ms) t (MadeIn (new_entry t s.made ∷ ms)) = adds-with ms t s.made in
      let makes : Makes g (context_with g ms) (context_with g (new_entry t s.made ∷ ms)) (MadeIn ms) (MadeIn (new_entry t s.made ∷ ms)) t e s.expanded s.made = record {
        partial = m.partial;
        adds = adds;
        one = one_with g ms t e s.made is;
        entered = is;
        expanded = s.is;
        gives = s.gives;
        needs = needs;
        unmade = unmade;
      } in
      record {
        after = new_entry t s.made ∷ ms;
        making = making_made g (context_with g ms) (context_with g (new_entry t s.made ∷ ms)) (MadeIn ms) (MadeIn (new_entry t s.made ∷ ms)) t e s.expanded s.made ts makes m;
        keeps = adds.keeps;
        made = adds.new;
      }

  -- the last one in progress, where this many more may be begun
  term_later : (n : ℕ) (ms : List TermEntry) (t : List ℕ) (ts : List (List ℕ)) → length keys < n + length (t ∷ ts) → IsMaking g (context_with g ms) (MadeIn ms) (t ∷ ts) → Later g ms ts t
  term_later zero ms t ts bound m =
      let few : length (t ∷ ts) ≤ length keys = no_more (t ∷ ts) keys m.different (λ u at. key_among u (m.entered u at)) in
      absurd (omega arith)
  term_later (suc n) ms t ts bound m =
      let deeper : (u : List ℕ) → length keys < n + length (u ∷ t ∷ ts) = λ u. omega arith in
      by_entry (λ ns u k. term_later n ns u (t ∷ ts) (deeper u) k) (entry g t) refl (m.entered t (Contains-here t ts))
    where
      by_entry : ((ns : List TermEntry) (u : List ℕ) → IsMaking g (context_with g ns) (MadeIn ns) (u ∷ t ∷ ts) → Later g ns (t ∷ ts) u) → (o : Option ContextEntry) → entry g t ≡ o → is_some o ≡ true → Later g ms ts t
      by_entry step None is entered = absurd (false≢true entered)
      by_entry step (Some e) is entered =
          let a = all_later (t ∷ ts) step ms (looks g t) m (λ u at in_entry. record { looked = at; entered = in_entry }) in
          let l = finished a.after t ts e a.making is (λ u needs. a.all u needs.looked needs.entered) in
          record { after = l.after; making = l.making; keeps = λ u was. l.keeps u (a.keeps u was); made = l.made }

  -- all terms
  pub result : (c : Context) × IsContext g c
  result =
      let start : IsMaking g (context_with g []) (MadeIn []) [] = making_start g (context_with g []) (MadeIn []) (start_with g) in
      let a = all_later [] (λ ms u m. term_later (length keys) ms u [] (omega arith) m) [] keys start (λ u at entered. tt) in
      (context_with g a.after, all_made g (context_with g a.after) (MadeIn a.after) a.making.partial (λ t entered. a.all t (key_among t entered) entered))
