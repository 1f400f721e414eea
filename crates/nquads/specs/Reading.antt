-- What N-Quads says: which texts are lines, and which statement a line spells.
-- RDF 1.1 N-Quads, 3 and 4
use Rattle.std.specs.Prelude.{◌≡◌, ◌≢◌, ◌<◌, ◌⊎◌, ◌==◌, ◌||◌, ℕ, List, [], ◌∷◌, ◌++◌, Bool, true, false, All, Contains, Option, Some, None, codes, length}
use Rattle.std.specs.List.{flat_map}
use Rattle.std.specs.Option.{option_to_list}
use Rattle.std.specs.Str.{IsUtf8}
use Rattle.iri_ref.specs.Components.{IsAbsolute}
use Rattle.base_types.specs.Sets.{AllDiffer}
use Rattle.nquads.specs.Terms.{Blank, by_label, Term, iri, literal, blank, Statement, IsStatement, IsLabel, xsd_string, rdf_lang_string}
use Rattle.nquads.specs.Renaming.{blanks_of, StandsIn}
use Rattle.nquads.specs.Escapes.{Writes}

-- ---- parts of a line

-- an IRI in angle brackets. RDF 1.1 N-Quads, 4, IRIREF
pub record WritesIri (written text : List ℕ) : Type 0 where
  pub inner : List ℕ
  pub is : written ≡ codes "<" ++ inner ++ codes ">"
  pub writes : Writes false inner text

-- what follows a literal's closing quote: a language after `@`, a datatype after `^^`, or nothing,
-- which is xsd:string
abbrev pub WritesEnd : List ℕ → List ℕ → Option (List ℕ) → Type 0
WritesEnd written datatype (Some language) =
    (written ≡ codes "@" ++ language) × (datatype ≡ rdf_lang_string)
WritesEnd written datatype None =
    ((written ≡ []) × (datatype ≡ xsd_string))
    ⊎ ((named : List ℕ) × (written ≡ codes "^^" ++ named) × WritesIri named datatype)

-- a literal. RDF 1.1 N-Quads, 3.2
pub record WritesLiteral (written text datatype : List ℕ) (language : Option (List ℕ))
    : Type 0 where
  pub inner : List ℕ
  pub end : List ℕ
  pub is : written ≡ codes "\"" ++ inner ++ codes "\"" ++ end
  pub writes : Writes true inner text
  pub ends : WritesEnd end datatype language

-- a term
abbrev pub WritesTerm : List ℕ → Term → Type 0
WritesTerm written (iri text) = WritesIri written text
WritesTerm written (literal text datatype language) = WritesLiteral written text datatype language
WritesTerm written (blank b) = (b.kind ≡ by_label) × (written ≡ codes "_:" ++ b.name)

-- ---- what may be read

-- the IRIs of a term
abbrev pub iris_of_term : Term → List (List ℕ)
iris_of_term (iri text) = text ∷ []
iris_of_term (literal text datatype language) = datatype ∷ []
iris_of_term (blank b) = []

-- what a term says in characters: an IRI, a literal's text and datatype, a label
abbrev pub texts_of_term : Term → List (List ℕ)
texts_of_term (iri text) = text ∷ []
texts_of_term (literal text datatype language) = text ∷ datatype ∷ []
texts_of_term (blank b) = b.name ∷ []

-- the terms of a statement
abbrev pub terms_of : Statement → List Term
terms_of s = s.subject ∷ iri s.predicate ∷ s.object ∷ option_to_list s.graph

-- U+FFFE or U+FFFF stands in the text
pub record HoldsNoncharacter (text : List ℕ) : Type 0 where
  pub before : List ℕ
  pub last : ℕ
  pub after : List ℕ
  pub is : text ≡ before ++ 239 ∷ 191 ∷ last ∷ after
  pub noncharacter : (last ≡ 190) ⊎ (last ≡ 191)

-- A statement that N-Quads admits: its IRIs are absolute, its blank nodes are named by labels, and
-- no text holds U+FFFE or U+FFFF.
pub record IsReadable (s : Statement) : Type 0 where
  pub statement : IsStatement s
  pub absolute : All IsAbsolute (flat_map iris_of_term (terms_of s))
  pub labels : All (λ (b : Blank). (b.kind ≡ by_label) × IsLabel b.name) (blanks_of s)
  pub characters : All (λ t. HoldsNoncharacter t → ⊥) (flat_map texts_of_term (terms_of s))

-- ---- lines

-- space or tab
abbrev pub is_gap : ℕ → Bool
is_gap c = (c == 32) || (c == 9)

-- spaces and tabs, or nothing
abbrev pub AreGaps : List ℕ → Type 0
AreGaps text = All (λ c. is_gap c ≡ true) text

-- spaces and tabs, at least one
abbrev pub IsGap : List ℕ → Type 0
IsGap text = (text ≢ []) × AreGaps text

-- a gap and the graph's name, or nothing for the default graph
pub record WritesGraphName (written : List ℕ) (g : Term) : Type 0 where
  pub gap : List ℕ
  pub name : List ℕ
  pub is : written ≡ gap ++ name
  pub apart : IsGap gap
  pub writes : WritesTerm name g

abbrev pub WritesGraph : List ℕ → Option Term → Type 0
WritesGraph written None = written ≡ []
WritesGraph written (Some g) = WritesGraphName written g

-- nothing but spaces and tabs, and perhaps a comment. RDF 1.1 N-Quads, 3.4
abbrev pub IsEnd : List ℕ → Type 0
IsEnd text =
    AreGaps text
    ⊎ ((gaps : List ℕ) × (comment : List ℕ) × (text ≡ gaps ++ codes "#" ++ comment) × AreGaps gaps)

-- Subject, predicate, object and perhaps a graph, apart by spaces and tabs, then a dot.
-- RDF 1.1 N-Quads, 4, statement
pub record WritesStatement (line : List ℕ) (s : Statement) : Type 0 where
  pub start : List ℕ
  pub subject : List ℕ
  pub first_gap : List ℕ
  pub predicate : List ℕ
  pub second_gap : List ℕ
  pub object : List ℕ
  pub graph : List ℕ
  pub last_gap : List ℕ
  pub end : List ℕ
  pub is : line ≡ start ++ subject ++ first_gap ++ predicate ++ second_gap ++ object ++ graph
      ++ last_gap ++ codes "." ++ end
  pub gaps : AreGaps start × IsGap first_gap × IsGap second_gap × AreGaps last_gap
  pub subject_is : WritesTerm subject s.subject
  pub predicate_is : WritesIri predicate s.predicate
  pub object_is : WritesTerm object s.object
  pub graph_is : WritesGraph graph s.graph
  pub ends : IsEnd end

-- The line says a statement, or nothing. It is UTF-8.
abbrev pub Says : List ℕ → Option Statement → Type 0
Says line None = IsUtf8 line × IsEnd line
Says line (Some s) = IsUtf8 line × WritesStatement line s × IsReadable s

-- ---- a text of lines

abbrev pub is_line_end : ℕ → Bool
is_line_end c = (c == 10) || (c == 13)

-- what follows begins a line: it stands first, or behind LF, or behind CR that no LF follows
abbrev pub BeginsLine : List ℕ → List ℕ → Type 0
BeginsLine before after =
    (before ≡ [])
    ⊎ ((front : List ℕ) × (before ≡ front ++ 10 ∷ []))
    ⊎ ((front : List ℕ) × (before ≡ front ++ 13 ∷ []) × ((rest : List ℕ) → after ≢ 10 ∷ rest))

-- what follows ends a line: nothing, LF or CR
abbrev pub EndsLine : List ℕ → Type 0
EndsLine after =
    (after ≡ []) ⊎ ((c : ℕ) × (rest : List ℕ) × (after ≡ c ∷ rest) × (is_line_end c ≡ true))

-- The line that begins at a byte: up to the next LF, CR or the end. RDF 1.1 N-Quads, 4, EOL
pub record IsLineAt (bytes : List ℕ) (at : ℕ) (text : List ℕ) : Type 0 where
  pub before : List ℕ
  pub after : List ℕ
  pub is : bytes ≡ before ++ text ++ after
  pub at_is : length before ≡ at
  pub whole : All (λ c. is_line_end c ≡ false) text
  pub begins : BeginsLine before (text ++ after)
  pub ends : EndsLine after

-- a line of the text says the statement
pub record StandsInText (bytes : List ℕ) (s : Statement) : Type 0 where
  pub at : ℕ
  pub line : List ℕ
  pub stands : IsLineAt bytes at line
  pub says : Says line (Some s)

-- what a line says is nothing, or a statement of the dataset
abbrev pub SaysOneOf : List Statement → List ℕ → Type 0
SaysOneOf q line = Says line None ⊎ ((s : Statement) × Contains q s × Says line (Some s))

-- The text says the dataset: each line says a statement of it, or nothing, and each statement
-- stands on a line. RDF 1.1 N-Quads, 3
pub record SaysDataset (bytes : List ℕ) (q : List Statement) : Type 0 where
  pub lines : (at : ℕ) (line : List ℕ) → IsLineAt bytes at line → SaysOneOf q line
  pub statements : (s : Statement) → Contains q s → StandsInText bytes s

-- the first line that says nothing that N-Quads admits begins at the byte
pub record IsFirstBadLine (bytes : List ℕ) (at : ℕ) : Type 0 where
  pub line : List ℕ
  pub stands : IsLineAt bytes at line
  pub bad : (x : Option Statement) → Says line x → ⊥
  pub first : (m : ℕ) (l : List ℕ) → IsLineAt bytes m l → m < at → (x : Option Statement) × Says l x

-- more than so many different statements stand on lines
pub record HasMoreStatements (bytes : List ℕ) (most : ℕ) : Type 0 where
  pub some : List Statement
  pub differ : AllDiffer some
  pub more : most < length some
  pub stand : All (StandsInText bytes) some

-- more than so many different blank nodes stand in statements on lines
pub record HasMoreBlanks (bytes : List ℕ) (most : ℕ) : Type 0 where
  pub statements : List Statement
  pub some : List Blank
  pub differ : AllDiffer some
  pub more : most < length some
  pub stand : All (StandsIn statements) some
  pub stand_in_text : All (StandsInText bytes) statements
