-- The other members of a definition, each by a rule of its own.
-- JSON-LD 1.1 API, 4.2.2, steps 11, 12 and 19 to 25
use Rattle.std.specs.Prelude.{ℕ, ◌+◌, List, [], ◌∷◌, Bool, true, ◌&&◌, ◌||◌, not, nat_le, Option, Some, None, option_map, option_and_then, is_none, codes, if◌then◌else◌}
use Rattle.std.specs.List.{list_all, list_any}
use Rattle.std.specs.Str.{bytes_eq}
use Rattle.json_tree.specs.declared.tree.Tree.{Tree}
use Rattle.json_tree.specs.declared.tree.Tree.TheOpen.{Tree-F}
use Rattle.json_tree.specs.declared.tree.Item.{Item}
use Rattle.json_tree.specs.Places.{text_of}
use Rattle.ld_words.specs.declared.keyword_table.LdKeyword.{LdKeyword}
use Rattle.ld_words.specs.declared.keyword_table.LdKeyword.TheVariants as word
use Rattle.ld_words.specs.declared.code_table.Code.{Code}
use Rattle.ld_words.specs.declared.code_table.Code.TheVariants as error
use Rattle.ld_termdef.specs.declared.definition.Kind.{Kind}
use Rattle.ld_termdef.specs.declared.definition.Kind.TheVariants as kinds
use Rattle.ld_termdef.specs.declared.definition.Setting.{Setting}
use Rattle.ld_termdef.specs.declared.definition.Setting.TheVariants as setting
use Rattle.ld_termdef.specs.declared.definition.Containers.{Containers}
use Rattle.ld_termdef.specs.declared.reading.ReadIri.{ReadIri}
use Rattle.ld_termdef.specs.declared.reading.ReadIri.TheVariants as read
use Rattle.ld_termdef.specs.declared.reading.Mode.TheVariants as mode
use Rattle.ld_termdef.specs.Words.{keyword_of, is_direction}
use Rattle.ld_termdef.specs.Checked.{Checked, fine, wrong, fine_where}
use Rattle.ld_termdef.specs.Contexts.{Context}
use Rattle.ld_termdef.specs.Iris.{reads, absolute_in}

-- ---- @type. JSON-LD 1.1 API, 4.2.2, step 12

abbrev pub keyword_kind : LdKeyword → Checked (Option Kind)
keyword_kind word.Id = fine (Some kinds.Id)
keyword_kind word.Vocab = fine (Some kinds.Vocab)
keyword_kind word.Json = fine (Some kinds.Json)
keyword_kind word.Absent = fine (Some kinds.Plain)
keyword_kind k = wrong error.InvalidTypeMapping

abbrev pub datatype_kind : Option (List ℕ) → Checked (Option Kind)
datatype_kind (Some iri) = fine (Some (kinds.Datatype iri))
datatype_kind None = wrong error.InvalidTypeMapping

abbrev pub kind_by : ReadIri → Checked (Option Kind)
kind_by (read.Word k) = keyword_kind k
kind_by (read.Iri iri) = datatype_kind (absolute_in (read.Iri iri))
kind_by read.Nothing = wrong error.InvalidTypeMapping
kind_by (read.Blank label) = wrong error.InvalidTypeMapping
kind_by (read.Relative text) = wrong error.InvalidTypeMapping

-- a text that reads as `@id`, `@vocab`, `@json`, `@none` or as an absolute IRI
abbrev pub kind_in : Context → Tree-F Tree → Checked (Option Kind)
kind_in c (Tree-F.Text text) = kind_by (reads c mode.Vocab text)
kind_in c other = wrong error.InvalidTypeMapping

-- ---- @container. JSON-LD 1.1 API, 4.2.2, step 19

-- the texts of a list's elements, where each is one
abbrev pub texts_of : List (Item Tree) → Option (List (List ℕ))
texts_of [] = Some []
texts_of (i ∷ is) =
    option_and_then (λ text. option_map (λ texts. text ∷ texts) (texts_of is)) (text_of i.value)

-- a text, or those of a list
abbrev pub texts_in : Tree-F Tree → Option (List (List ℕ))
texts_in (Tree-F.Text text) = Some (text ∷ [])
texts_in (Tree-F.List items) = texts_of items
texts_in other = None

abbrev pub is_among : List (List ℕ) → List ℕ → Bool
is_among texts text = list_any (bytes_eq text) texts

-- the words that name a container
abbrev pub container_words : List (List ℕ)
container_words =
    codes "@list" ∷ codes "@set" ∷ codes "@language" ∷ codes "@index" ∷ codes "@id"
    ∷ codes "@type" ∷ codes "@graph" ∷ []

-- whether no text stands twice
abbrev pub differ : List (List ℕ) → Bool
differ [] = true
differ (text ∷ texts) = not (is_among texts text) && differ texts

-- the containers that these words name
abbrev pub containers_named : List (List ℕ) → Containers
containers_named texts = record {
  list = is_among texts (codes "@list");
  set = is_among texts (codes "@set");
  language = is_among texts (codes "@language");
  index = is_among texts (codes "@index");
  id = is_among texts (codes "@id");
  kind = is_among texts (codes "@type");
  graph = is_among texts (codes "@graph");
}

abbrev pub no_containers : Containers
no_containers = containers_named []

-- how many tests pass
abbrev pub how_many : List Bool → ℕ
how_many [] = 0
how_many (test ∷ tests) = if test then 1 + how_many tests else how_many tests

-- the containers by which a value is a map of entries, and `@graph`
abbrev pub maps_and_graph : Containers → List Bool
maps_and_graph cs = cs.language ∷ cs.index ∷ cs.id ∷ cs.kind ∷ cs.graph ∷ []

-- `@graph` with one of `@id` and `@index`
abbrev pub is_graph_map : Containers → Bool
is_graph_map cs = cs.graph && not cs.language && not cs.kind && not (cs.id && cs.index)

-- Whether containers may stand together: `@list` alone; or at most one of the others, or `@graph`
-- with one of `@id` and `@index`, each with `@set` or without it.
-- JSON-LD 1.1 API, 4.2.2, step 19.1
abbrev pub go_together : Containers → Bool
go_together cs =
    if cs.list then not cs.set && nat_le (how_many (maps_and_graph cs)) 0
    else nat_le (how_many (maps_and_graph cs)) 1 || is_graph_map cs

abbrev pub containers_by : Option (List (List ℕ)) → Checked Containers
containers_by None = wrong error.InvalidContainerMapping
containers_by (Some texts) =
    fine_where (list_all (is_among container_words) texts && differ texts
    && go_together (containers_named texts)) (containers_named texts) error.InvalidContainerMapping

-- a text, or a list of texts, each one of the seven words, none twice
abbrev pub containers_in : Tree-F Tree → Checked Containers
containers_in value = containers_by (texts_in value)

-- ---- @index. JSON-LD 1.1 API, 4.2.2, step 20

abbrev pub index_by : List ℕ → Option (List ℕ) → Checked (Option (List ℕ))
index_by text (Some iri) = fine (Some text)
index_by text None = wrong error.InvalidTermDefinition

-- A text that reads as an absolute IRI; the text is kept, not the IRI.
abbrev pub index_in : Context → Tree-F Tree → Checked (Option (List ℕ))
index_in c (Tree-F.Text text) = index_by text (absolute_in (reads c mode.Vocab text))
index_in c other = wrong error.InvalidTermDefinition

-- ---- @language and @direction. JSON-LD 1.1 API, 4.2.2, steps 22 and 23

-- null or a text
abbrev pub language_in : Tree-F Tree → Checked Setting
language_in Tree-F.Null = fine setting.Cleared
language_in (Tree-F.Text text) = fine (setting.Set text)
language_in other = wrong error.InvalidLanguageMapping

-- null, `ltr` or `rtl`
abbrev pub direction_in : Tree-F Tree → Checked Setting
direction_in Tree-F.Null = fine setting.Cleared
direction_in (Tree-F.Text text) =
    fine_where (is_direction text) (setting.Set text) error.InvalidBaseDirection
direction_in other = wrong error.InvalidBaseDirection

-- beside `@type` a setting has no effect, whatever stands there
abbrev pub unless_typed : Bool → (Tree-F Tree → Checked Setting) → Tree-F Tree → Checked Setting
unless_typed typed rule value = if typed then fine setting.Absent else rule value

-- ---- @nest, @prefix and @protected. JSON-LD 1.1 API, 4.2.2, steps 24, 25 and 11

-- `@nest`, or a text that is no keyword
abbrev pub nest_in : Tree-F Tree → Checked (Option (List ℕ))
nest_in (Tree-F.Text text) =
    fine_where (is_none (keyword_of text) || bytes_eq text (codes "@nest")) (Some text)
    error.InvalidNestValue
nest_in other = wrong error.InvalidNestValue

-- a boolean, and else this error
abbrev pub boolean_in : Code → Tree-F Tree → Checked (Option Bool)
boolean_in code (Tree-F.Bool b) = fine (Some b)
boolean_in code other = wrong code
