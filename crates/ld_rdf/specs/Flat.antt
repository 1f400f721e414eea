-- Flat requests, and the statements that their documents mean: a part of JSON-LD 1.1 that needs no
-- expansion. What is said of a request is said of the places in it.
use Rattle.std.specs.Prelude.{◌≡◌, ◌≢◌, ℕ, List, [], ◌∷◌, Contains, Some, None, codes}
use Rattle.base_types.specs.Sets.{HasExactly}
use Rattle.json_tree.specs.declared.tree.Tree.{Tree}
use Rattle.json_tree.specs.declared.tree.Tree.TheVariants as v
use Rattle.json_tree.specs.declared.place.Step.{Step}
use Rattle.json_tree.specs.declared.place.Step.TheVariants.{Key}
use Rattle.json_tree.specs.Places.{look, names_at}
use Rattle.nquads.specs.Terms.{iri, literal, Statement, IsDataset, xsd_string}
use Rattle.ld_rdf.specs.Plain.{IsPlainIri, IsPlainTerm, HasNoncharacter}

abbrev pub at_context : List ℕ
at_context = codes "@context"

abbrev pub at_id : List ℕ
at_id = codes "@id"

-- the value at the place is this text
abbrev pub HasText : List Step → Tree → List ℕ → Type 0
HasText place r text = look place r ≡ Some (v.Text text)

-- the place of the context that is supplied under a name, of a term of it, and of a member of the
-- document
abbrev pub context_place : List ℕ → List Step
context_place name = Key (codes "contexts") ∷ Key name ∷ Key at_context ∷ []

abbrev pub term_place : List ℕ → List ℕ → List Step
term_place name term = Key (codes "contexts") ∷ Key name ∷ Key at_context ∷ Key term ∷ []

abbrev pub document_place : List ℕ → List Step
document_place key = Key (codes "document") ∷ Key key ∷ []

-- a plain term that the supplied context maps to a plain IRI. -- JSON-LD 1.1, 9.15.1
pub record DefinesTerm (r : Tree) (name term : List ℕ) : Type 0 where
  pub mapping : List ℕ
  pub plain : IsPlainTerm term
  pub is : HasText (term_place name term) r mapping
  pub plain_iri : IsPlainIri mapping

-- a member of the document with a text that can be carried
pub record HasValue (r : Tree) (key : List ℕ) : Type 0 where
  pub text : List ℕ
  pub is : HasText (document_place key) r text
  pub carried : HasNoncharacter text → ⊥

-- A flat request: one context of plain terms, supplied under the name by which the document takes
-- it, and a document with a plain `@id` and, beside these two, terms of the context with texts.
pub record IsFlat (r : Tree) : Type 0 where
  pub name : List ℕ
  pub terms : List (List ℕ)
  pub names : List (List ℕ)
  pub id : List ℕ
  -- the request has these two members, and the first of them has one member with `@context` alone
  pub request : names_at [] r ≡ Some (codes "contexts" ∷ codes "document" ∷ [])
  pub supplied : names_at (Key (codes "contexts") ∷ []) r ≡ Some (name ∷ [])
  pub wrapped : names_at (Key (codes "contexts") ∷ Key name ∷ []) r ≡ Some (at_context ∷ [])
  pub context : names_at (context_place name) r ≡ Some terms
  pub definitions : (term : List ℕ) → Contains terms term → DefinesTerm r name term
  -- the document
  pub document : names_at (Key (codes "document") ∷ []) r ≡ Some names
  pub identified : HasText (document_place at_id) r id
  pub plain_id : IsPlainIri id
  pub chosen : HasText (document_place at_context) r name
  pub keys : (key : List ℕ) → Contains names key → key ≢ at_id → key ≢ at_context
      → Contains terms key
  pub values : (key : List ℕ) → Contains names key → key ≢ at_id → key ≢ at_context
      → HasValue r key

-- from the document's `@id`, by the term's IRI, to the text as xsd:string, in the default graph
abbrev pub property_statement : List ℕ → List ℕ → List ℕ → Statement
property_statement id mapping text = record {
  subject = iri id;
  predicate = mapping;
  object = literal text xsd_string None;
  graph = None;
}

-- A statement of the flat meaning: a member of the document under a term of the context that it
-- takes. JSON-LD 1.1 API, 8.1
pub record Means (r : Tree) (s : Statement) : Type 0 where
  pub name : List ℕ
  pub id : List ℕ
  pub key : List ℕ
  pub mapping : List ℕ
  pub text : List ℕ
  pub chosen : HasText (document_place at_context) r name
  pub identified : HasText (document_place at_id) r id
  pub not_id : key ≢ at_id
  pub not_context : key ≢ at_context
  pub value : HasText (document_place key) r text
  pub term : HasText (term_place name key) r mapping
  pub is : s ≡ property_statement id mapping text

-- The flat meaning is the set of these statements.
pub record IsFlatMeaning (r : Tree) (q : List Statement) : Type 0 where
  pub dataset : IsDataset q
  pub exact : HasExactly q (Means r)
