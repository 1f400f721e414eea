-- Terms, statements and datasets of RDF. RDF 1.1 Concepts and Abstract Syntax, section 3.
use Rattle.std.specs.Prelude.{◌≡◌, ◌≢◌, ◌-◌, ℕ, List, [], ◌++◌, Bool, true, false, ◌&&◌, ◌||◌, ◌==◌, nat_le, All, Option, MatchOption, IfSome, codes, length, slice_index}
use Rattle.std.specs.List.{flat_map}
use Rattle.base_types.specs.Sets.{AllDiffer}
pub use Rattle.iri_ref.specs.Characters.{is_letter, is_forbidden}

-- How a blank node got its name: a document's label, or the place of a node, of a graph or of a
-- list cell that the document does not name.
pub data BlankKind : Type 0 where
  by_label : BlankKind
  by_node : BlankKind
  by_graph : BlankKind
  by_cell : BlankKind

-- A blank node. `name` is its label, or the JSON Pointer of its place. -- RDF 1.1 Concepts, 3.4
pub record Blank : Type 0 where
  pub kind : BlankKind
  pub name : List ℕ

-- A term. A literal has a text, a datatype and perhaps a language. -- RDF 1.1 Concepts, 3.1 to 3.4
pub data Term : Type 0 where
  iri : List ℕ → Term
  literal : List ℕ → List ℕ → Option (List ℕ) → Term
  blank : Blank → Term

-- A statement, or quad; without a graph it stands in the default graph.
-- RDF 1.1 Concepts, 3.1 and 4
pub record Statement : Type 0 where
  pub subject : Term
  pub predicate : List ℕ
  pub object : Term
  pub graph : Option Term

-- A dataset is a list of statements without repeats; datasets are compared as sets.
abbrev pub IsDataset : List Statement → Type 0
IsDataset q = AllDiffer q

-- http://www.w3.org/2001/XMLSchema#string
abbrev pub xsd_string : List ℕ
xsd_string = codes "http://www.w3.org/2001/XMLSchema#string"

-- http://www.w3.org/1999/02/22-rdf-syntax-ns#langString
abbrev pub rdf_lang_string : List ℕ
rdf_lang_string = codes "http://www.w3.org/1999/02/22-rdf-syntax-ns#langString"

-- ---- the grammar of the parts

abbrev pub is_digit : ℕ → Bool
is_digit c = nat_le 48 c && nat_le c 57

-- The text holds no byte that is forbidden in an IRI. That it is absolute is asked where IRIs are
-- read.
abbrev pub HasIriCharacters : List ℕ → Type 0
HasIriCharacters text = All (λ c. is_forbidden c ≡ false) text

-- letters or digits, at least one
abbrev pub IsLanguageGroup : List ℕ → Type 0
IsLanguageGroup g = (g ≢ []) × All (λ c. (is_letter c || is_digit c) ≡ true) g

-- letters, then groups of `-` and letters or digits. -- RDF 1.1 N-Quads, 4, LANGTAG
pub record IsLanguage (text : List ℕ) : Type 0 where
  pub first : List ℕ
  pub groups : List (List ℕ)
  pub is : text ≡ first ++ flat_map (λ g. codes "-" ++ g) groups
  pub first_letters : (first ≢ []) × All (λ c. is_letter c ≡ true) first
  pub group_characters : All IsLanguageGroup groups

-- a character of a label: letters, digits, `_ : - .` and whatever is past ASCII
abbrev pub is_label_character : ℕ → Bool
is_label_character c =
    is_letter c || is_digit c || (c == 95) || (c == 58) || (c == 45) || (c == 46) || nat_le 128 c

-- A label of a blank node: not empty, with `-` and `.` not first and `.` not last.
-- RDF 1.1 N-Quads, 4, BLANK_NODE_LABEL
pub record IsLabel (text : List ℕ) : Type 0 where
  pub not_empty : text ≢ []
  pub characters : All (λ c. is_label_character c ≡ true) text
  pub first : (slice_index text 0 ≢ 45) × (slice_index text 0 ≢ 46)
  pub last : slice_index text (length text - 1) ≢ 46

-- A term whose IRIs are written with admitted characters, and whose datatype is rdf:langString
-- exactly where there is a language. -- RDF 1.1 Concepts, 3.2 and 3.3
abbrev pub IsTerm : Term → Type 0
IsTerm (iri text) = HasIriCharacters text
IsTerm (literal text datatype language) =
    HasIriCharacters datatype
    × MatchOption language (datatype ≢ rdf_lang_string)
    (λ tag. (datatype ≡ rdf_lang_string) × IsLanguage tag)
IsTerm (blank b) = Unit {0}

-- an IRI or a blank node
abbrev pub IsResource : Term → Type 0
IsResource (iri text) = HasIriCharacters text
IsResource (literal text datatype language) = ⊥
IsResource (blank b) = Unit {0}

-- Subject and graph are resources, the predicate is an IRI. -- RDF 1.1 Concepts, 3.1
pub record IsStatement (s : Statement) : Type 0 where
  pub subject : IsResource s.subject
  pub predicate : HasIriCharacters s.predicate
  pub object : IsTerm s.object
  pub graph : IfSome s.graph IsResource
