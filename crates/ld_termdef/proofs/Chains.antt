-- The terms in progress: each is needed by the one that stands behind it, so one that is needed again needs itself.
use Rattle.std.proofs.Common.{◌≡◌, ◌⊎◌, inl, inr, ℕ, zero, suc, ◌<◌, List, [], ◌∷◌, true, Option, Some, None, is_some, Contains, length, get_or, sym, subst, ◌∙◌, arith}
use Rattle.base_types.specs.Sets.{AllDiffer}
use Rattle.base_types.proofs.Lists.{Contains-nil, Contains-here, Contains-there, Contains-cons_cases}
use Rattle.std.proofs.lemmas.List.{get_or_default}
use Rattle.ld_termdef.specs.declared.definition.TermDef.{TermDef}
use Rattle.ld_termdef.specs.Contexts.{Context}
use Rattle.ld_termdef.specs.Entries.{ContextEntry, Given, ExpandedDefinition, entry}
use Rattle.ld_termdef.specs.Needs.{Needs, Reaches}
use Rattle.ld_termdef.specs.Needs.Reaches.{once, more}
use Rattle.ld_termdef.proofs.Making.{IsPartial, IsChain, IsMaking}
use Rattle.ld_termdef.proofs.Solutions.{reaches_more}
use Rattle.ld_termdef.proofs.Partial.{Makes, partial_more}

-- ---- lists without repeats

-- the first element is none of the others
pub differ-first : {X : Type 0} (x : X) (xs : List X) (y : X) → AllDiffer (x ∷ xs) → Contains xs y → x ≡ y → ⊥
differ-first x xs y all at same = all 0 (suc at.0) y (omega arith) (omega (arith, at.1)) (same ∙ sym at.2)

-- the others differ
pub differ-rest : {X : Type 0} (x : X) (xs : List X) → AllDiffer (x ∷ xs) → AllDiffer xs
differ-rest x xs all = λ i j d less within. all (suc i) (suc j) d (omega arith) (omega arith)

-- a new element in front of them
pub differ-more : {X : Type 0} (x : X) (xs : List X) → (Contains xs x → ⊥) → AllDiffer xs → AllDiffer (x ∷ xs)
differ-more {X} x xs new all = go
  where
    go : AllDiffer (x ∷ xs)
    go zero zero d less within = absurd (omega arith)
    go zero (suc j) d less within = λ same. new (j, (omega arith), (get_or_default xs j x d (omega arith) ∙ sym same))
    go (suc i) zero d less within = absurd (omega arith)
    go (suc i) (suc j) d less within = all i j d (omega arith) (omega arith)

-- ---- cycles

-- each term in progress leads to the last one begun
chain_reaches : (g : Given) (t : List ℕ) (rest : List (List ℕ)) (s : List ℕ) → IsChain g (t ∷ rest) → Contains rest s → Reaches g s t
chain_reaches g t [] s chain at = absurd (Contains-nil s at)
chain_reaches g t (v ∷ rest) s chain at = go (chain_reaches g v rest s chain.1) (Contains-cons_cases v rest s at)
  where
    go : (Contains rest s → Reaches g s v) → (v ≡ s) ⊎ Contains rest s → Reaches g s t
    go later (inl same) = subst (λ (x : List ℕ). Reaches g x t) same (once v t chain.0)
    go later (inr behind) = reaches_more g s v t (later behind) chain.0

-- one in progress that the last one needs needs itself
pub chain_cycle : (g : Given) (t : List ℕ) (rest : List (List ℕ)) (s : List ℕ) → IsChain g (t ∷ rest) → Contains (t ∷ rest) s → Needs g t s → Reaches g s s
chain_cycle g t rest s chain at needs = go (Contains-cons_cases t rest s at)
  where
    go : (t ≡ s) ⊎ Contains rest s → Reaches g s s
    go (inl same) = subst (λ (x : List ℕ). Reaches g x s) same (once t s needs)
    go (inr behind) = reaches_more g s t s (chain_reaches g t rest s chain behind) needs

-- ---- what the loop keeps

-- nothing is in progress
pub making_start : (g : Given) (c : Context) (Made : List ℕ → Type 0) → IsPartial g c Made → IsMaking g c Made []
making_start g c Made p = record {
  partial = p;
  chain = tt;
  different = λ i j d less within. absurd (omega arith);
  unmade = λ u at made. Contains-nil u at;
  entered = λ u at. absurd (Contains-nil u at);
}

-- what may be begun behind these: a term that the last of them needs
abbrev pub MayBegin : Given → List ℕ → List (List ℕ) → Type 0
MayBegin g t [] = Unit {0}
MayBegin g t (s ∷ rest) = Needs g s t

chain_more : (g : Given) (t : List ℕ) (ts : List (List ℕ)) → MayBegin g t ts → IsChain g ts → IsChain g (t ∷ ts)
chain_more g t [] may chain = tt
chain_more g t (s ∷ rest) may chain = (may, chain)

-- a term is begun
pub making_push : (g : Given) (c : Context) (Made : List ℕ → Type 0) (t : List ℕ) (ts : List (List ℕ)) → IsMaking g c Made ts → MayBegin g t ts → (Contains ts t → ⊥) → (Made t → ⊥) → is_some (entry g t) ≡ true → IsMaking g c Made (t ∷ ts)
making_push g c Made t ts m may new unmade entered = record {
  partial = m.partial;
  chain = chain_more g t ts may m.chain;
  different = differ-more t ts new m.different;
  unmade = λ u at made. unmade_at u (Contains-cons_cases t ts u at) made;
  entered = λ u at. entered_at u (Contains-cons_cases t ts u at);
}
  where
    unmade_at : (u : List ℕ) → (t ≡ u) ⊎ Contains ts u → Made u → ⊥
    unmade_at u (inl same) made = unmade (subst Made (sym same) made)
    unmade_at u (inr at) made = m.unmade u at made

    entered_at : (u : List ℕ) → (t ≡ u) ⊎ Contains ts u → is_some (entry g u) ≡ true
    entered_at u (inl same) = subst (λ (x : List ℕ). is_some (entry g x) ≡ true) same entered
    entered_at u (inr at) = m.entered u at

chain_rest : (g : Given) (t : List ℕ) (ts : List (List ℕ)) → IsChain g (t ∷ ts) → IsChain g ts
chain_rest g t [] chain = tt
chain_rest g t (s ∷ rest) chain = chain.1

-- the last term begun is made
pub making_made : (g : Given) (c d : Context) (Made After : List ℕ → Type 0) (t : List ℕ) (e : ContextEntry) (w : ExpandedDefinition) (made : TermDef) (ts : List (List ℕ)) → Makes g c d Made After t e w made → IsMaking g c Made (t ∷ ts) → IsMaking g d After ts
making_made g c d Made After t e w made ts m k = record {
  partial = partial_more g c d Made After t e w made m;
  chain = chain_rest g t ts k.chain;
  different = differ-rest t ts k.different;
  unmade = λ u at is. unmade_at u at (m.adds.only u is);
  entered = λ u at. k.entered u (Contains-there t ts u at);
}
  where
    unmade_at : (u : List ℕ) → Contains ts u → (t ≡ u) ⊎ Made u → ⊥
    unmade_at u at (inl same) = differ-first t ts u k.different at same
    unmade_at u at (inr known) = k.unmade u (Contains-there t ts u at) known
