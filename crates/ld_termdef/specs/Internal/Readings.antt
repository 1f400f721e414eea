-- Rows of the table of readings, put together as the program takes them.
use Rattle.std.specs.Prelude.{ℕ, List, Option, Some, None, option_map, option_and_then, is_none, if◌then◌else◌}
use Rattle.json_tree.specs.Places.{or_else}
use Rattle.iri_ref.specs.Characters.{first_forbidden}
use Rattle.iri_ref.specs.Components.{around_colon}
use Rattle.iri_ref.specs.Resolution.{resolution}
use Rattle.ld_termdef.specs.declared.definition.Mapped.{Mapped}
use Rattle.ld_termdef.specs.declared.reading.ReadIri.{ReadIri}
use Rattle.ld_termdef.specs.declared.reading.ReadIri.TheVariants as read
use Rattle.ld_termdef.specs.declared.reading.Mode.{Mode}
use Rattle.ld_termdef.specs.Words.{keyword_of, looks_like_keyword}
use Rattle.ld_termdef.specs.Contexts.{Context}
use Rattle.ld_termdef.specs.Iris.{has_terms, alias_of, reading_of, row, blank_row, slashes_row, compact_row}

-- a keyword, or the form of one
abbrev pub keyword_row : List ℕ → Option ReadIri
keyword_row text =
    or_else (option_map read.Word (keyword_of text)) (row (looks_like_keyword text) read.Nothing)

-- what a term maps to: a keyword in each mode, and all else where terms are looked up
abbrev pub mapped_row : Mode → Mapped → Option ReadIri
mapped_row m mapped = or_else (alias_of mapped) (row (has_terms m) (reading_of mapped))

-- the rows of a text with these parts, and of one that may have parts
abbrev pub parts_row : Context → List ℕ → List ℕ × List ℕ → Option ReadIri
parts_row c text parts =
    or_else (blank_row parts) (or_else (slashes_row text parts) (compact_row c parts))

abbrev pub colon_row : Context → List ℕ → Option ReadIri
colon_row c text = option_and_then (parts_row c text) (around_colon text)

-- what a text means at a base
abbrev pub resolved_row : List ℕ → List ℕ → Option ReadIri
resolved_row base text =
    row (is_none (first_forbidden text)) (read.Iri (resolution base text))
