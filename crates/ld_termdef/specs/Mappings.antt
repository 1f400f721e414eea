-- What a term maps to. JSON-LD 1.1 API, 4.2.2, steps 13 to 18
use Rattle.std.specs.Prelude.{ℕ, List, ◌++◌, Bool, false, ◌&&◌, ◌||◌, not, Option, Some, None, option_and_then, codes, if◌then◌else◌}
use Rattle.std.specs.Str.{bytes_eq}
use Rattle.json_tree.specs.declared.tree.Tree.{Tree, out-Tree}
use Rattle.json_tree.specs.declared.tree.Tree.TheOpen.{Tree-F}
use Rattle.iri_ref.specs.Components.{around_colon}
use Rattle.ld_words.specs.declared.keyword_table.LdKeyword.{LdKeyword}
use Rattle.ld_words.specs.declared.keyword_table.LdKeyword.TheVariants as word
use Rattle.ld_words.specs.declared.code_table.Code.TheVariants as error
use Rattle.ld_termdef.specs.declared.definition.Mapped.{Mapped}
use Rattle.ld_termdef.specs.declared.definition.Mapped.TheVariants as maps
use Rattle.ld_termdef.specs.declared.reading.ReadIri.{ReadIri}
use Rattle.ld_termdef.specs.declared.reading.ReadIri.TheVariants as read
use Rattle.ld_termdef.specs.declared.reading.Mode.TheVariants as mode
use Rattle.ld_termdef.specs.Words.{keyword_of, has_byte, has_inner_colon}
use Rattle.ld_termdef.specs.Checked.{Checked, fine, wrong}
use Rattle.ld_termdef.specs.Contexts.{Context}
use Rattle.ld_termdef.specs.Iris.{reads, reads_apart, absolute_in, iri_of}
use Rattle.ld_termdef.specs.Entries.{ExpandedDefinition, member_of}

-- an absolute IRI, as what a term maps to
abbrev pub absolute_mapping : Option (List ℕ) → Checked Mapped
absolute_mapping (Some iri) = fine (maps.Iri iri)
absolute_mapping None = wrong error.InvalidIriMapping

-- a keyword, but `@context` has no alias. -- JSON-LD 1.1 API, 4.2.2, step 14.2.3
abbrev pub alias_for : LdKeyword → Checked Mapped
alias_for word.Context = wrong error.InvalidKeywordAlias
alias_for k = fine (maps.Word k)

-- A reading as what a term maps to: a keyword or an absolute IRI.
-- JSON-LD 1.1 API, 4.2.2, step 14.2.3
abbrev pub as_mapping : ReadIri → Checked Mapped
as_mapping (read.Word k) = alias_for k
as_mapping (read.Iri iri) = absolute_mapping (absolute_in (read.Iri iri))
as_mapping read.Nothing = wrong error.InvalidIriMapping
as_mapping (read.Blank label) = wrong error.InvalidIriMapping
as_mapping (read.Relative text) = wrong error.InvalidIriMapping

-- ---- a term that has an IRI by itself

-- whether a reading and what a term maps to are one IRI
abbrev pub is_same_iri : ReadIri → Mapped → Bool
is_same_iri (read.Iri i) (maps.Iri j) = bytes_eq i j
is_same_iri reading mapped = false

-- whether a term has an IRI by itself, so that it may map to no other
abbrev pub has_own_iri : List ℕ → Bool
has_own_iri t = has_inner_colon t || has_byte 47 t

-- What such a term maps to is what it reads as by itself. -- JSON-LD 1.1 API, 4.2.2, step 14.2.4
abbrev pub same_by_itself : Context → List ℕ → Checked Mapped → Checked Mapped
same_by_itself c t (wrong code) = wrong code
same_by_itself c t (fine mapped) =
    if has_own_iri t && not (is_same_iri (reads_apart c mode.Vocab t) mapped)
    then wrong error.InvalidIriMapping
    else fine mapped

-- ---- without `@id`

-- the vocabulary and the term. -- JSON-LD 1.1 API, 4.2.2, step 18
abbrev pub behind_vocab : List ℕ → Option (List ℕ) → Checked Mapped
behind_vocab t (Some vocab) = fine (maps.Iri (vocab ++ t))
behind_vocab t None = wrong error.InvalidIriMapping

-- the IRI that a prefix maps to and the suffix, or else the term itself
abbrev pub behind_prefix : List ℕ → List ℕ → Option (List ℕ) → Mapped
behind_prefix t suffix (Some iri) = maps.Iri (iri ++ suffix)
behind_prefix t suffix None = maps.Iri t

-- A term that is parted around a colon, or is not. Whether its prefix has the prefix flag does not
-- matter here. -- JSON-LD 1.1 API, 4.2.2, steps 15 and 18
abbrev pub by_parts : Context → List ℕ → Option (List ℕ × List ℕ) → Checked Mapped
by_parts c t None = behind_vocab t c.vocab
by_parts c t (Some parts) =
    if bytes_eq parts.0 (codes "_") then wrong error.InvalidIriMapping
    else fine (behind_prefix t parts.1 (option_and_then (λ d. iri_of d.mapped) (c.terms parts.0)))

-- `@type` stays what it is; of other keywords the definition is a fault. -- API, 4.2.2, step 17
abbrev pub by_term : Context → List ℕ → Option LdKeyword → Checked Mapped
by_term c t (Some k) = fine (maps.Word k)
by_term c t None = by_parts c t (around_colon t)

-- ---- with `@id` or `@reverse`

-- The value of `@id`: null, the term itself, which counts as none, or a text that reads as a
-- keyword or an IRI. -- JSON-LD 1.1 API, 4.2.2, step 14
abbrev pub id_mapping : Context → List ℕ → Tree-F Tree → Checked Mapped
id_mapping c t Tree-F.Null = fine maps.Nothing
id_mapping c t (Tree-F.Text text) =
    if bytes_eq text t then by_term c t (keyword_of t)
    else same_by_itself c t (as_mapping (reads c mode.Vocab text))
id_mapping c t Tree-F.Version = wrong error.InvalidIriMapping
id_mapping c t (Tree-F.Bool b) = wrong error.InvalidIriMapping
id_mapping c t (Tree-F.Whole z) = wrong error.InvalidIriMapping
id_mapping c t (Tree-F.List items) = wrong error.InvalidIriMapping
id_mapping c t (Tree-F.Object members) = wrong error.InvalidIriMapping

-- The value of `@reverse`: a text that reads as an IRI. -- API, 4.2.2, steps 13.2 and 13.4
abbrev pub reverse_mapping : Context → Tree-F Tree → Checked Mapped
reverse_mapping c (Tree-F.Text text) = absolute_mapping (absolute_in (reads c mode.Vocab text))
reverse_mapping c other = wrong error.InvalidIriMapping

-- `@reverse` counts before `@id`, and both before the term.
abbrev pub mapping_by : Context → List ℕ → Option Tree → Option Tree → Checked Mapped
mapping_by c t (Some reverse) id = reverse_mapping c (out-Tree reverse)
mapping_by c t None (Some id) = id_mapping c t (out-Tree id)
mapping_by c t None None = by_term c t (keyword_of t)

-- What a definition maps its term to. -- JSON-LD 1.1 API, 4.2.2, steps 13 to 18
abbrev pub mapping : Context → List ℕ → ExpandedDefinition → Checked Mapped
mapping c t d = mapping_by c t (member_of (codes "@reverse") d) (member_of (codes "@id") d)
