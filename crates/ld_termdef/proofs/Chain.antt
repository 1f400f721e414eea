-- The worked chain: its terms in any result.
use Rattle.std.proofs.Common.{◌≡◌, ◌⊎◌, inl, inr, ℕ, List, [], ◌∷◌, Bool, true, false, Some, None, is_some, Contains, codes, ap, subst, ◌∙◌}
use Rattle.base_types.proofs.Lists.{Contains-nil, Contains-cons_cases}
use Rattle.json_tree.specs.declared.tree.Tree.{out-Tree}
use Rattle.json_tree.specs.declared.tree.Tree.TheVariants as v
use Rattle.json_tree.specs.declared.place.Step.TheVariants.{Key}
use Rattle.ld_termdef.specs.declared.definition.Mapped.TheVariants as maps
use Rattle.ld_termdef.specs.declared.definition.TermDef.{TermDef}
use Rattle.ld_termdef.specs.Contexts.{Context, definition_in, empty_context}
use Rattle.ld_termdef.specs.Entries.{ContextEntry, ExpandedDefinition, expanded_definition, id_alone, entry_at}
use Rattle.ld_termdef.specs.Definitions.{term_definition}
use Rattle.ld_termdef.specs.Rows.{rows}
use Rattle.ld_termdef.specs.Needs.{is_term, definition_looks}
use Rattle.ld_termdef.specs.Equation.{DefinesTerm, IsContext}
use Rattle.ld_termdef.specs.Examples.{plain, term, text_member, chain}
use Rattle.ld_termdef.proofs.Unique.{AgreeOn, rows_same}

-- what the three terms mean
abbrev mapped : List ℕ → Bool → TermDef
mapped iri prefix = plain (maps.Iri iri) prefix

abbrev worked : Context
worked = record empty_context {
  terms = λ t. definition_in (
      term (codes "a") (mapped (codes "https://ex.org/y/x") false)
      ∷ term (codes "b") (mapped (codes "https://ex.org/y/") true)
      ∷ term (codes "c") (mapped (codes "https://ex.org/") true) ∷ []) t;
}

abbrev entry_of : List ℕ → List ℕ → ContextEntry
entry_of key text = entry_at (Key (codes "document") ∷ Key (codes "@context") ∷ []) (text_member key text)

abbrev simple : List ℕ → ExpandedDefinition
simple text = expanded_definition true true (id_alone (v.Text text))

-- a result says of this text what the worked context says
abbrev Says : Context → List ℕ → Type 0
Says c u = (c.terms u ≡ worked.terms u) × (is_some (c.terms u) ≡ is_term chain u)

agree_one : (c : Context) (x : List ℕ) → Says c x → AgreeOn chain (x ∷ []) c worked
agree_one c x says u at = subst (Says c) (is_it (Contains-cons_cases x [] u at)) says
  where
    is_it : (x ≡ u) ⊎ Contains [] u → x ≡ u
    is_it (inl e) = e
    is_it (inr n) = absurd (Contains-nil u n)

agree_two : (c : Context) (x y : List ℕ) → Says c x → Says c y → AgreeOn chain (x ∷ y ∷ []) c worked
agree_two c x y one two u at = go (Contains-cons_cases x (y ∷ []) u at)
  where
    go : (x ≡ u) ⊎ Contains (y ∷ []) u → Says c u
    go (inl e) = subst (Says c) e one
    go (inr n) = agree_one c y two u n

-- the definition of an entry, by the rows of the worked context
by_worked : (c : Context) (p : IsContext chain c) (key text : List ℕ) → DefinesTerm chain c key (entry_of key text) (simple text) → AgreeOn chain (definition_looks chain key (Some (simple text))) c worked → c.terms key ≡ Some (term_definition chain (entry_of key text) (simple text) (rows worked key (simple text)))
by_worked c p key text s agree =
    s.is ∙ ap (λ r. Some (term_definition chain (entry_of key text) (simple text) r)) (rows_same chain c worked key (simple text) p.parts.vocab agree)

-- the term that needs none
pub third : (c : Context) → IsContext chain c → c.terms (codes "c") ≡ Some (mapped (codes "https://ex.org/") true)
unfolding out-Tree denote.Hole.Carrier.out
third c p =
    let none : c.terms (codes "https://ex.org/") ≡ None = p.solves (codes "https://ex.org/") in
    let says : Says c (codes "https://ex.org/") = (none, ap is_some none) in
    by_worked c p (codes "c") (codes "https://ex.org/") (p.solves (codes "c")) (agree_one c (codes "https://ex.org/") says)

-- the term that needs it
pub second : (c : Context) → IsContext chain c → c.terms (codes "b") ≡ Some (mapped (codes "https://ex.org/y/") true)
unfolding out-Tree denote.Hole.Carrier.out
second c p =
    let none : c.terms (codes "c:y/") ≡ None = p.solves (codes "c:y/") in
    let says : Says c (codes "c:y/") = (none, ap is_some none) in
    let prefix : Says c (codes "c") = (third c p, ap is_some (third c p)) in
    by_worked c p (codes "b") (codes "c:y/") (p.solves (codes "b")) (agree_two c (codes "c:y/") (codes "c") says prefix)

-- the term that needs the second
pub first : (c : Context) → IsContext chain c → c.terms (codes "a") ≡ Some (mapped (codes "https://ex.org/y/x") false)
unfolding out-Tree denote.Hole.Carrier.out
first c p =
    let none : c.terms (codes "b:x") ≡ None = p.solves (codes "b:x") in
    let says : Says c (codes "b:x") = (none, ap is_some none) in
    let prefix : Says c (codes "b") = (second c p, ap is_some (second c p)) in
    by_worked c p (codes "a") (codes "b:x") (p.solves (codes "a")) (agree_two c (codes "b:x") (codes "b") says prefix)

-- a text that is no term
pub other : (c : Context) → IsContext chain c → c.terms (codes "d") ≡ None
other c p = p.solves (codes "d")
