-- How terms are written: canonical N-Quads for IRIs and literals, and one text for each blank node.
-- RDF Canonicalization, the canonical form of N-Quads; RDF 1.1 N-Quads, 4.
use Rattle.std.specs.Prelude.{ℕ, ◌+◌, ◌/◌, ◌%◌, List, [], ◌∷◌, ◌++◌, ◌==◌, ◌||◌, codes, nat_lt, if◌then◌else◌, Option, Some, None, option_map}
use Rattle.std.specs.List.{flat_map}
use Rattle.std.specs.Str.{bytes_eq}
use Rattle.nquads.specs.Terms.{BlankKind, by_label, by_node, by_graph, by_cell, Blank, Term, iri, literal, blank, Statement, xsd_string}
use Rattle.nquads.specs.declared.quads.TextQuad.{TextQuad}

-- a hexadecimal digit, in upper case
abbrev pub hex_digit : ℕ → ℕ
hex_digit n = if nat_lt n 10 then 48 + n else 55 + n

-- `\u00` and the two digits of a byte
abbrev pub hex_escape : ℕ → List ℕ
hex_escape c = codes "\\u00" ++ hex_digit (c / 16) ∷ hex_digit (c % 16) ∷ []

-- A byte of a literal's text: \b \t \n \f \r \" \\, \u00XX for the other controls and for U+007F,
-- and itself otherwise. (The canonical form escapes U+FFFE and U+FFFF too; texts that hold them are
-- refused before they come here.)
abbrev pub escape : ℕ → List ℕ
escape c =
    if c == 8 then codes "\\b"
    else (if c == 9 then codes "\\t"
    else (if c == 10 then codes "\\n"
    else (if c == 12 then codes "\\f"
    else (if c == 13 then codes "\\r"
    else (if c == 34 then codes "\\\""
    else (if c == 92 then codes "\\\\"
    else (if nat_lt c 32 || (c == 127) then hex_escape c
    else c ∷ [])))))))

-- an IRI in angle brackets
abbrev pub iri_text : List ℕ → List ℕ
iri_text text = codes "<" ++ text ++ codes ">"

-- what follows the quoted text: `@` and the language, or `^^` and the datatype, which is left out
-- where it is xsd:string
abbrev pub literal_end : List ℕ → Option (List ℕ) → List ℕ
literal_end datatype (Some language) = codes "@" ++ language
literal_end datatype None =
    if bytes_eq datatype xsd_string then [] else codes "^^" ++ iri_text datatype

-- the canonical literal
abbrev pub literal_text : List ℕ → List ℕ → Option (List ℕ) → List ℕ
literal_text text datatype language =
    codes "\"" ++ flat_map escape text ++ codes "\"" ++ literal_end datatype language

-- a letter for each kind of name, `n`, `o`, `g` and `c`, so that names of two kinds are never one
-- text
abbrev pub kind_letter : BlankKind → ℕ
kind_letter by_label = 110
kind_letter by_node = 111
kind_letter by_graph = 103
kind_letter by_cell = 99

-- `_:`, the letter of the kind, and the name
abbrev pub blank_text : Blank → List ℕ
blank_text b = codes "_:" ++ kind_letter b.kind ∷ b.name

-- The spelling of a term, by which the program keeps it.
abbrev pub spelling : Term → List ℕ
spelling (iri text) = iri_text text
spelling (literal text datatype language) = literal_text text datatype language
spelling (blank b) = blank_text b

-- a statement's four spellings
abbrev pub text_quad : Statement → TextQuad
text_quad s = record {
  subject = spelling s.subject;
  predicate = iri_text s.predicate;
  object = spelling s.object;
  graph = option_map spelling s.graph;
}
