-- How a text is read as an IRI: the first row of a table that applies. JSON-LD 1.1 API, 5.2.2
use Rattle.std.specs.Prelude.{ℕ, List, [], ◌∷◌, ◌++◌, Bool, true, false, ◌&&◌, Option, Some, None, option_map, option_and_then, unwrap_or, is_none, codes, if◌then◌else◌}
use Rattle.std.specs.Str.{bytes_eq}
use Rattle.json_tree.specs.Places.{first_of}
use Rattle.iri_ref.specs.Characters.{first_forbidden}
pub use Rattle.iri_ref.specs.Components.{is_absolute}
use Rattle.iri_ref.specs.Components.{around_colon}
use Rattle.iri_ref.specs.Resolution.{resolution}
use Rattle.ld_termdef.specs.declared.definition.Mapped.{Mapped}
use Rattle.ld_termdef.specs.declared.definition.Mapped.TheVariants as maps
use Rattle.ld_termdef.specs.declared.definition.TermDef.{TermDef}
use Rattle.ld_termdef.specs.declared.reading.ReadIri.{ReadIri}
use Rattle.ld_termdef.specs.declared.reading.ReadIri.TheVariants as read
use Rattle.ld_termdef.specs.declared.reading.Mode.{Mode}
use Rattle.ld_termdef.specs.declared.reading.Mode.TheVariants as mode
use Rattle.ld_termdef.specs.Words.{keyword_of, looks_like_keyword, begins_with_slashes}
use Rattle.ld_termdef.specs.Contexts.{Context}

-- in which modes a text is looked up as a term and may stand behind the vocabulary, and in which
-- it may be relative to the base. -- JSON-LD 1.1 API, 5.2, the flags vocab and document relative
abbrev pub has_terms : Mode → Bool
has_terms mode.Document = false
has_terms mode.Vocab = true
has_terms mode.Both = true

abbrev pub has_base : Mode → Bool
has_base mode.Document = true
has_base mode.Vocab = false
has_base mode.Both = true

-- ---- what a term maps to

-- the keyword, where it is one
abbrev pub alias_of : Mapped → Option ReadIri
alias_of (maps.Word k) = Some (read.Word k)
alias_of maps.Nothing = None
alias_of (maps.Iri iri) = None

-- as a reading: a keyword, an IRI, or nothing
abbrev pub reading_of : Mapped → ReadIri
reading_of maps.Nothing = read.Nothing
reading_of (maps.Word k) = read.Word k
reading_of (maps.Iri iri) = read.Iri iri

-- the IRI, where it is one
abbrev pub iri_of : Mapped → Option (List ℕ)
iri_of (maps.Iri iri) = Some iri
iri_of maps.Nothing = None
iri_of (maps.Word k) = None

-- the IRI of a term that may be a prefix
abbrev pub prefix_iri : TermDef → Option (List ℕ)
prefix_iri d = if d.prefix then iri_of d.mapped else None

-- ---- rows: a reading where the row applies

abbrev pub row : Bool → ReadIri → Option ReadIri
row applies reading = if applies then Some reading else None

-- Rows of a text that is parted around a colon: a blank node identifier; what has slashes behind
-- the colon; a compact IRI. -- JSON-LD 1.1 API, 5.2.2, steps 6.2 and 6.4
abbrev pub blank_row : List ℕ × List ℕ → Option ReadIri
blank_row parts = row (bytes_eq parts.0 (codes "_")) (read.Blank parts.1)

abbrev pub slashes_row : List ℕ → List ℕ × List ℕ → Option ReadIri
slashes_row text parts = row (begins_with_slashes parts.1) (read.Iri text)

abbrev pub compact_row : Context → List ℕ × List ℕ → Option ReadIri
compact_row c parts =
    option_map (λ iri. read.Iri (iri ++ parts.1)) (option_and_then prefix_iri (c.terms parts.0))

-- the vocabulary and the text. -- JSON-LD 1.1 API, 5.2.2, step 7
abbrev pub vocab_row : Context → Mode → List ℕ → Option ReadIri
vocab_row c m text =
    if has_terms m then option_map (λ vocab. read.Iri (vocab ++ text)) c.vocab else None

-- what the text means at the base. -- JSON-LD 1.1 API, 5.2.2, step 8
abbrev pub base_row : Context → Mode → List ℕ → Option ReadIri
base_row c m text =
    if has_base m && is_none (first_forbidden text)
    then option_map (λ base. read.Iri (resolution base text)) c.base
    else None

-- The rows that look the whole text up: a keyword, the form of one, an alias of a keyword, a term.
-- JSON-LD 1.1 API, 5.2.2, steps 1, 2, 4 and 5
abbrev pub term_rows : Context → Mode → List ℕ → List (Option ReadIri)
term_rows c m text =
    option_map read.Word (keyword_of text)
    ∷ row (looks_like_keyword text) read.Nothing
    ∷ option_and_then (λ d. alias_of d.mapped) (c.terms text)
    ∷ (if has_terms m then option_map (λ d. reading_of d.mapped) (c.terms text) else None) ∷ []

-- The rows after these. -- JSON-LD 1.1 API, 5.2.2, steps 6 to 8
abbrev pub other_rows : Context → Mode → List ℕ → List (Option ReadIri)
other_rows c m text =
    option_and_then blank_row (around_colon text)
    ∷ option_and_then (slashes_row text) (around_colon text)
    ∷ option_and_then (compact_row c) (around_colon text)
    ∷ row (is_absolute text) (read.Iri text)
    ∷ vocab_row c m text
    ∷ base_row c m text ∷ []

-- How a text is read. Where no row applies it is relative. -- JSON-LD 1.1 API, 5.2.2
abbrev pub reads : Context → Mode → List ℕ → ReadIri
reads c m text =
    unwrap_or (first_of (term_rows c m text ++ other_rows c m text)) (read.Relative text)

-- How it is read where it is not looked up as a term.
abbrev pub reads_apart : Context → Mode → List ℕ → ReadIri
reads_apart c m text = unwrap_or (first_of (other_rows c m text)) (read.Relative text)

-- the absolute IRI that a reading is, where it is one
abbrev pub absolute_in : ReadIri → Option (List ℕ)
absolute_in (read.Iri iri) = if is_absolute iri then Some iri else None
absolute_in read.Nothing = None
absolute_in (read.Word k) = None
absolute_in (read.Blank label) = None
absolute_in (read.Relative text) = None
