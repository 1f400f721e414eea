-- Contexts of worked rows.
use Rattle.std.specs.Prelude.{ℕ, List, [], ◌∷◌, ◌++◌, Bool, true, false, Some, None, codes}
use Rattle.json_tree.specs.declared.tree.Tree.{Tree}
use Rattle.json_tree.specs.declared.tree.Tree.TheVariants as v
use Rattle.json_tree.specs.declared.tree.Member.{Member}
use Rattle.json_tree.specs.declared.place.Step.{Step}
use Rattle.json_tree.specs.declared.place.Step.TheVariants.{Key}
use Rattle.json_tree.specs.Trees.{new_member}
use Rattle.ld_words.specs.declared.keyword_table.LdKeyword.TheVariants as word
use Rattle.ld_words.specs.declared.code_table.Code.{Code}
use Rattle.ld_termdef.specs.declared.definition.Mapped.{Mapped}
use Rattle.ld_termdef.specs.declared.definition.Mapped.TheVariants as maps
use Rattle.ld_termdef.specs.declared.definition.Setting.TheVariants as setting
use Rattle.ld_termdef.specs.declared.definition.TermDef.{TermDef}
use Rattle.ld_termdef.specs.declared.definition.TermEntry.{TermEntry}
use Rattle.ld_termdef.specs.Checked.{Fault, fault}
use Rattle.ld_termdef.specs.Contexts.{Context, definition_in, empty_context}
use Rattle.ld_termdef.specs.Entries.{Given, ExpandedDefinition, expanded_definition, entry_at, entries_at}
use Rattle.ld_termdef.specs.DefinitionMembers.{no_containers}
use Rattle.ld_termdef.specs.Rows.{rows, row_faults}

-- a term that maps to this, with the prefix flag or without, and nothing else
abbrev pub plain : Mapped → Bool → TermDef
plain mapped prefix = record {
  mapped = mapped;
  prefix = prefix;
  protected = false;
  reverse = false;
  kind = None;
  language = setting.Absent;
  direction = setting.Absent;
  containers = no_containers;
  scoped = None;
  nest = None;
  index = None;
}

abbrev pub term : List ℕ → TermDef → TermEntry
term t d = record { term = t; def = d }

-- a term, an alias, a term that maps to nothing, a prefix, and a term that is none
abbrev pub some_terms : List TermEntry
some_terms =
    term (codes "name") (plain (maps.Iri (codes "https://schema.org/name")) false)
    ∷ term (codes "type") (plain (maps.Word word.Kind) false)
    ∷ term (codes "none") (plain maps.Nothing false)
    ∷ term (codes "ex") (plain (maps.Iri (codes "https://ex.org/")) true)
    ∷ term (codes "site") (plain (maps.Iri (codes "https://ex.org/")) false) ∷ []

-- a context with these, a base and a vocabulary; and one with neither
abbrev pub some_context : Context
some_context = record {
  base = Some (codes "http://a/b/c/d;p?q");
  vocab = Some (codes "https://ex.org/v#");
  language = None;
  direction = None;
  terms = λ t. definition_in some_terms t;
}

abbrev pub bare_context : Context
bare_context = record empty_context { terms = λ t. definition_in some_terms t }

-- ---- what is given

-- members of a context object in the document, over the context that says nothing
abbrev pub given_members : List (Member Tree) → Given
given_members members = record {
  before = empty_context;
  entries = entries_at (Key (codes "document") ∷ Key (codes "@context") ∷ []) members;
  protect = false;
  change = false;
}

abbrev pub text_member : List ℕ → List ℕ → Member Tree
text_member key text = new_member key (v.Text text)

-- a term whose own prefix it is: it needs itself
abbrev pub own_prefix : Given
own_prefix = given_members (text_member (codes "a") (codes "a:x") ∷ [])

-- a chain: each term is the prefix of the next
abbrev pub chain : Given
chain = given_members (
    text_member (codes "a") (codes "b:x")
    ∷ text_member (codes "b") (codes "c:y/")
    ∷ text_member (codes "c") (codes "https://ex.org/") ∷ [])

-- what stands behind a document's `@context`
abbrev pub context_place : List ℕ → List Step
context_place key = Key (codes "document") ∷ Key (codes "@context") ∷ Key key ∷ []

-- ---- faults

-- the definition that has these members
abbrev pub definition_with : List (Member Tree) → ExpandedDefinition
definition_with members = expanded_definition false false members

-- the faults of the term `a` with these members, read in the context that says nothing
abbrev pub faults_with : List (Member Tree) → List Fault
faults_with members =
    row_faults
    (entry_at (Key (codes "document") ∷ Key (codes "@context") ∷ [])
    (new_member (codes "a") (v.Object members)))
    (definition_with members)
    (rows empty_context (codes "a") (definition_with members))

-- one error at each of two members of the term `a`
abbrev pub two_faults : Code → List ℕ → List ℕ → List Fault
two_faults code one other =
    fault code (context_place (codes "a") ++ Key one ∷ [])
    ∷ fault code (context_place (codes "a") ++ Key other ∷ []) ∷ []
