-- Where the entries of a context object are at fault. Where there is no result, what an entry needs
-- may still have a solution, and by this its faults are said.
-- JSON-LD 1.1 API, 4.2.2 and 9.6
use Rattle.std.specs.Prelude.{◌≡◌, ◌⊎◌, ℕ, ◌<◌, List, [], true, Option, Some, None, Contains, is_some}
use Rattle.json_tree.specs.declared.tree.Tree.{out-Tree}
use Rattle.ld_words.specs.declared.code_table.Code.TheVariants as error
use Rattle.ld_termdef.specs.Words.{keyword_of}
use Rattle.ld_termdef.specs.Checked.{Fault, fault}
use Rattle.ld_termdef.specs.Contexts.{Context}
use Rattle.ld_termdef.specs.Entries.{ContextEntry, Given, ExpandedDefinition, expanded_of, entry, entry_place}
use Rattle.ld_termdef.specs.Rows.{row_faults}
use Rattle.ld_termdef.specs.Definitions.{term_definition, MayReplace}
use Rattle.ld_termdef.specs.Needs.{Needs, Reaches}
use Rattle.ld_termdef.specs.Equation.{Solves, HasParts, entry_rows}

-- A solution for all that a term needs, which may say anything of other terms that have an entry.
pub record SolvesNeeds (g : Given) (c : Context) (t : List ℕ) : Type 0 where
  pub parts : HasParts g c
  pub without_entry : (u : List ℕ) → entry g u ≡ None → c.terms u ≡ g.before.terms u
  pub needed : (u : List ℕ) → Reaches g t u → Solves g c u
  pub rank : List ℕ → ℕ
  pub falls : (s u : List ℕ) → (s ≡ t) ⊎ Reaches g t s → Needs g s u → rank u < rank s

-- The fault is that a protected term would be defined otherwise. -- API, 4.2.2, step 27.1
pub record IsRedefined (g : Given) (c : Context) (e : ContextEntry) (d : ExpandedDefinition)
    (x : Fault) : Type 0 where
  pub no_fault : row_faults e d (entry_rows c e d) ≡ []
  pub refused :
      MayReplace g.change (g.before.terms e.key) (term_definition g e d (entry_rows c e d)) → ⊥
  pub is : x ≡ fault error.ProtectedTermRedefinition (entry_place e)

-- The fault of a value that is no definition, and of a keyword that has one.
-- JSON-LD 1.1 API, 4.2.2, steps 4, 5 and 9
abbrev pub IsNoDefinition : ContextEntry → Fault → Type 0
IsNoDefinition e x =
    (x ≡ fault error.InvalidTermDefinition (entry_place e))
    ⊎ ((is_some (keyword_of e.key) ≡ true)
    × (x ≡ fault error.KeywordRedefinition (entry_place e)))

-- The fault is one of the entry e, read in the context c.
abbrev pub ValueFault : Given → Context → ContextEntry → Option ExpandedDefinition → Fault → Type 0
ValueFault g c e None x = IsNoDefinition e x
ValueFault g c e (Some d) x =
    Contains (row_faults e d (entry_rows c e d)) x ⊎ IsRedefined g c e d x

abbrev pub EntryFault : Given → Context → Option ContextEntry → Fault → Type 0
EntryFault g c None x = ⊥
EntryFault g c (Some e) x = ValueFault g c e (expanded_of (out-Tree e.value)) x

-- The fault of an entry that needs itself. -- JSON-LD 1.1 API, 4.2.2, step 1
pub record IsCyclic (g : Given) (t : List ℕ) (e : ContextEntry) (x : Fault) : Type 0 where
  pub needs_itself : Reaches g t t
  pub entered : entry g t ≡ Some e
  pub is : x ≡ fault error.CyclicIriMapping (entry_place e)

-- The faults of the definitions of a context object: of entries that need themselves, and of
-- entries whose needs have a solution, read in it.
pub data DefinitionFault (g : Given) (x : Fault) : Type 0 where
  cyclic : (t : List ℕ) (e : ContextEntry) → IsCyclic g t e x → DefinitionFault g x
  inside :
      (t : List ℕ) (c : Context) → SolvesNeeds g c t → EntryFault g c (entry g t) x
      → DefinitionFault g x
