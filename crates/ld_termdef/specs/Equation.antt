-- A context as an equation: what each term's definition in the result is, its IRIs read in the
-- result itself. No order in which terms are defined is spoken of.
-- JSON-LD 1.1 API, 4.1.2, step 5.13, and 4.2.2
use Rattle.std.specs.Prelude.{◌≡◌, ℕ, List, [], Option, Some, None}
use Rattle.json_tree.specs.declared.tree.Tree.{out-Tree}
use Rattle.ld_termdef.specs.Contexts.{Context}
use Rattle.ld_termdef.specs.Entries.{ContextEntry, Given, ExpandedDefinition, expanded_of, entry}
use Rattle.ld_termdef.specs.Rows.{Rows, rows, row_faults}
use Rattle.ld_termdef.specs.Definitions.{term_definition, MayReplace}
use Rattle.ld_termdef.specs.Needs.{Ranked}

-- the rows of the entry e with the value d, read in the result c
abbrev pub entry_rows : Context → ContextEntry → ExpandedDefinition → Rows
entry_rows c e d = rows c e.key d

-- The entry e with the value d defines the term t in the result c: its rows have no fault, its
-- definition may take the place of the earlier one, and it is the term's.
pub record DefinesTerm (g : Given) (c : Context) (t : List ℕ) (e : ContextEntry)
    (d : ExpandedDefinition) : Type 0 where
  pub no_fault : row_faults e d (entry_rows c e d) ≡ []
  pub may_replace :
      MayReplace g.change (g.before.terms t) (term_definition g e d (entry_rows c e d))
  pub is : c.terms t ≡ Some (term_definition g e d (entry_rows c e d))

-- an entry whose value is no definition has no solution
abbrev pub SolvesValue :
    Given → Context → List ℕ → ContextEntry → Option ExpandedDefinition → Type 0
SolvesValue g c t e None = ⊥
SolvesValue g c t e (Some d) = DefinesTerm g c t e d

-- The equation at a term: with an entry, the definition that this gives; and without one, the
-- definition from before.
abbrev pub SolvesEntry : Given → Context → List ℕ → Option ContextEntry → Type 0
SolvesEntry g c t None = c.terms t ≡ g.before.terms t
SolvesEntry g c t (Some e) = SolvesValue g c t e (expanded_of (out-Tree e.value))

abbrev pub Solves : Given → Context → List ℕ → Type 0
Solves g c t = SolvesEntry g c t (entry g t)

-- the base, the vocabulary and the defaults are those that were given
pub record HasParts (g : Given) (c : Context) : Type 0 where
  pub base : c.base ≡ g.before.base
  pub vocab : c.vocab ≡ g.before.vocab
  pub language : c.language ≡ g.before.language
  pub direction : c.direction ≡ g.before.direction

-- The context c is the result: it solves the equation at each term, and no term needs itself.
pub record IsContext (g : Given) (c : Context) : Type 0 where
  pub parts : HasParts g c
  pub solves : (t : List ℕ) → Solves g c t
  pub ranked : Ranked g
