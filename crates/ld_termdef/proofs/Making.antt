-- A result in the making: a context that solves the equation at the terms that are made, and the
-- terms in progress, each of which needs the one before it. The made terms are a family of facts,
-- so that any store of them will do.
use Rattle.std.specs.Prelude.{◌≡◌, ◌⊎◌, ℕ, ◌<◌, ◌≤◌, List, [], ◌∷◌, true, None, Contains, is_some}
use Rattle.base_types.specs.Sets.{AllDiffer}
use Rattle.ld_termdef.specs.declared.definition.TermDef.{TermDef}
use Rattle.ld_termdef.specs.Contexts.{Context}
use Rattle.ld_termdef.specs.Entries.{ContextEntry, Given, ExpandedDefinition, entry}
use Rattle.ld_termdef.specs.Rows.{row_faults}
use Rattle.ld_termdef.specs.Definitions.{term_definition, MayReplace}
use Rattle.ld_termdef.specs.Needs.{Needs}
use Rattle.ld_termdef.specs.Equation.{Solves, HasParts, entry_rows}

-- The context solves the equation at the made terms, which need made terms alone.
pub record IsPartial (g : Given) (c : Context) (Made : List ℕ → Type 0) : Type 0 where
  pub parts : HasParts g c
  pub without_entry : (u : List ℕ) → entry g u ≡ None → c.terms u ≡ g.before.terms u
  pub solves : (u : List ℕ) → Made u → Solves g c u
  pub closed : (t u : List ℕ) → Made t → Needs g t u → Made u
  pub rank : List ℕ → ℕ
  pub bound : ℕ
  pub bounded : (u : List ℕ) → Made u → rank u ≤ bound
  pub falls : (t u : List ℕ) → Made t → Needs g t u → rank u < rank t

-- the entry e with the value d gives this definition, its IRIs read in the context c
pub record Gives (g : Given) (c : Context) (e : ContextEntry) (d : ExpandedDefinition) (made : TermDef)
    : Type 0 where
  pub no_fault : row_faults e d (entry_rows c e d) ≡ []
  pub may_replace : MayReplace g.change (g.before.terms e.key) made
  pub is : made ≡ term_definition g e d (entry_rows c e d)

-- each term in progress is needed by the one that stands behind it; the last begun stands first
abbrev pub IsChain : Given → List (List ℕ) → Type 0
IsChain g [] = Unit {0}
IsChain g (t ∷ []) = Unit {0}
IsChain g (t ∷ s ∷ rest) = Needs g s t × IsChain g (s ∷ rest)

-- What the loop keeps: a partial result, and the terms in progress, which differ, are not made and
-- have entries.
pub record IsMaking (g : Given) (c : Context) (Made : List ℕ → Type 0) (progress : List (List ℕ))
    : Type 0 where
  pub partial : IsPartial g c Made
  pub chain : IsChain g progress
  pub different : AllDiffer progress
  pub unmade : (u : List ℕ) → Contains progress u → Made u → ⊥
  pub entered : (u : List ℕ) → Contains progress u → is_some (entry g u) ≡ true

-- one term more is made
pub record Adds (Made : List ℕ → Type 0) (t : List ℕ) (After : List ℕ → Type 0) : Type 0 where
  pub new : After t
  pub keeps : (u : List ℕ) → Made u → After u
  pub only : (u : List ℕ) → After u → (t ≡ u) ⊎ Made u
