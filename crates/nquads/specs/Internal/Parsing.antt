-- A line read from left to right: its parts as they are written, and what each means.
use Rattle.std.specs.Prelude.{◌≡◌, ◌<◌, ◌==◌, ◌||◌, ◌-◌, ◌+◌, ℕ, List, [], ◌∷◌, Bool, true, false, Option, Some, None, take, drop, length, slice_index, bytes_eq, if◌then◌else◌, option_map, option_and_then}
use denote.Ref.{Bor}
use Rattle.std.specs.List.{prefix_len}
use Rattle.nquads.specs.Terms.{by_label, Term, iri, literal, blank, Statement, is_letter, is_digit, is_label_character, xsd_string, rdf_lang_string}
use Rattle.nquads.specs.Reading.{is_gap}
use Rattle.nquads.specs.Internal.Meaning.{only_if, meant, holds_noncharacter, is_iri, is_language, is_label}
use Rattle.nquads.specs.declared.parts.Ending.{Ending}
use Rattle.nquads.specs.declared.parts.Ending.TheVariants as ending
use Rattle.nquads.specs.declared.parts.Part.{Part}
use Rattle.nquads.specs.declared.parts.Part.TheVariants as part
use Rattle.nquads.specs.declared.parts.LineParts.{LineParts}

-- ---- parts as they are written

-- what follows a literal's closing quote: nothing, a language, or a datatype between its brackets
pub data EndText : Type 0 where
  plain_end : EndText
  language_end : List ℕ → EndText
  datatype_end : List ℕ → EndText

-- a term: what stands between brackets, between quotes and behind them, or behind `_:`
pub data PartText : Type 0 where
  iri_part : List ℕ → PartText
  literal_part : List ℕ → EndText → PartText
  blank_part : List ℕ → PartText

-- the four parts of a statement
pub record LineTexts : Type 0 where
  pub subject : PartText
  pub predicate : List ℕ
  pub object : PartText
  pub graph : Option PartText

-- the texts that the code's parts borrow
abbrev pub seen_end : Ending → EndText
seen_end ending.Plain = plain_end
seen_end (ending.Language tag) = language_end tag.now
seen_end (ending.Datatype inner) = datatype_end inner.now

abbrev pub seen : Part → PartText
seen (part.Iri inner) = iri_part inner.now
seen (part.Literal inner end) = literal_part inner.now (seen_end end)
seen (part.Blank label) = blank_part label.now

abbrev pub seen_line : LineParts → LineTexts
seen_line l = record {
  subject = seen l.subject;
  predicate = l.predicate.now;
  object = seen l.object;
  graph = option_map seen l.graph;
}

-- a part and what follows it, as the code gives them
abbrev pub seen_two : Bor (List ℕ) × Bor (List ℕ) → List ℕ × List ℕ
seen_two q = (q.0.now, q.1.now)

abbrev pub seen_end_two : Ending × Bor (List ℕ) → EndText × List ℕ
seen_end_two q = (seen_end q.0, q.1.now)

abbrev pub seen_part_two : Part × Bor (List ℕ) → PartText × List ℕ
seen_part_two q = (seen q.0, q.1.now)

abbrev pub seen_graph_two : Option Part × Bor (List ℕ) → Option PartText × List ℕ
seen_graph_two q = (option_map seen q.0, q.1.now)

-- ---- from left to right

-- what f makes of the value, and y where there is none
abbrev pub where_some : {X Y : Type 0} → Option X → (X → Y) → Y → Y
where_some None f y = y
where_some (Some x) f y = f x

-- what follows the byte c, where the text begins with it
abbrev pub past : ℕ → List ℕ → Option (List ℕ)
past c [] = None
past c (b ∷ bs) = if b == c then Some bs else None

-- what follows one space or tab
abbrev pub past_one_gap : List ℕ → Option (List ℕ)
past_one_gap [] = None
past_one_gap (b ∷ bs) = if is_gap b then Some bs else None

-- what follows spaces and tabs
abbrev pub past_gaps : List ℕ → List ℕ
past_gaps [] = []
past_gaps (b ∷ bs) = if is_gap b then past_gaps bs else b ∷ bs

-- what follows at least one space or tab
abbrev pub past_gap : List ℕ → Option (List ℕ)
past_gap text = option_map past_gaps (past_one_gap text)

-- the same parts with one byte more in front
abbrev pub one_more : ℕ → Option (List ℕ × List ℕ) → Option (List ℕ × List ℕ)
one_more b parts = option_map (λ q. (b ∷ q.0, q.1)) parts

-- what stands before the first c and what follows it
abbrev pub cut_at : ℕ → List ℕ → Option (List ℕ × List ℕ)
cut_at c [] = None
cut_at c (b ∷ bs) = if b == c then Some ([], bs) else one_more b (cut_at c bs)

-- What stands before the first quote that no backslash escapes, and what follows it. `escaped` says
-- that a backslash stood before.
abbrev pub cut_quoted : Bool → List ℕ → Option (List ℕ × List ℕ)
cut_quoted escaped [] = None
cut_quoted true (b ∷ bs) = one_more b (cut_quoted false bs)
cut_quoted false (b ∷ bs) =
    if b == 34 then Some ([], bs) else one_more b (cut_quoted (b == 92) bs)

-- the place of the closing quote
abbrev pub IsQuoteAt : List ℕ → Option ℕ → Type 0
IsQuoteAt text None = cut_quoted false text ≡ None
IsQuoteAt text (Some n) =
    (n < length text) × (slice_index text n ≡ 34)
    × (cut_quoted false text ≡ Some (take n text, drop (n + 1) text))

-- an IRI's text between its brackets, and what follows them
abbrev pub cut_iri : List ℕ → Option (List ℕ × List ℕ)
cut_iri text = option_and_then (cut_at 62) (past 60 text)

-- the first n bytes and what follows them
abbrev pub cut_after : ℕ → List ℕ → List ℕ × List ℕ
cut_after n text = (take n text, drop n text)

-- letters, digits and hyphens
abbrev pub is_language_character : ℕ → Bool
is_language_character c = is_letter c || (is_digit c || (c == 45))

abbrev pub language_len : List ℕ → ℕ
language_len text = prefix_len is_language_character text

-- all characters of a label that stand in front, but for a last dot
abbrev pub without_dot : List ℕ → ℕ → ℕ
without_dot text n = if slice_index text (n - 1) == 46 then n - 1 else n

abbrev pub label_len : List ℕ → ℕ
label_len text = without_dot text (prefix_len is_label_character text)

-- a language and what follows it
abbrev pub language_in : List ℕ → Option (EndText × List ℕ)
language_in text =
    Some (language_end (take (language_len text) text), drop (language_len text) text)

-- a datatype, behind its first `^`
abbrev pub datatype_in : List ℕ → Option (EndText × List ℕ)
datatype_in text =
    option_map (λ q. (datatype_end q.0, q.1)) (option_and_then cut_iri (past 94 text))

-- what follows the closing quote
abbrev pub end_in : List ℕ → Option (EndText × List ℕ)
end_in text =
    where_some (past 64 text) language_in
    (where_some (past 94 text) datatype_in (Some (plain_end, text)))

-- a literal behind its quote
abbrev pub literal_in : List ℕ → Option (PartText × List ℕ)
literal_in text = option_and_then
    (λ q. option_map (λ x. (literal_part q.0 x.0, x.1)) (end_in q.1)) (cut_quoted false text)

-- a blank node behind its `_`
abbrev pub blank_in : List ℕ → Option (PartText × List ℕ)
blank_in text = option_map
    (λ rest. (blank_part (take (label_len rest) rest), drop (label_len rest) rest)) (past 58 text)

-- an IRI
abbrev pub iri_in : List ℕ → Option (PartText × List ℕ)
iri_in text = option_map (λ q. (iri_part q.0, q.1)) (cut_iri text)

-- the term that stands in front, and what follows it
unfoldable pub part_in : List ℕ → Option (PartText × List ℕ)
part_in text =
    where_some (past 34 text) literal_in (where_some (past 95 text) blank_in (iri_in text))

-- a graph behind its gap, and what follows the dot
abbrev pub graph_in : List ℕ → Option (Option PartText × List ℕ)
graph_in text = option_and_then
    (λ q. option_map (λ end. (Some q.0, end)) (past 46 (past_gaps q.1))) (part_in text)

-- a graph or nothing, and what follows the dot
unfoldable pub closing_in : List ℕ → Option (Option PartText × List ℕ)
closing_in text =
    where_some (past 46 (past_gaps text)) (λ end. Some (None, end))
    (option_and_then graph_in (past_gap text))

-- nothing, or a comment
abbrev pub is_comment : List ℕ → Bool
is_comment [] = true
is_comment (b ∷ bs) = b == 35

-- the end of a line: nothing but spaces and tabs, and perhaps a comment
abbrev pub is_end : List ℕ → Bool
is_end text = is_comment (past_gaps text)

-- the parts of a line behind its object
abbrev pub behind_object : PartText → List ℕ → PartText → List ℕ → Option LineTexts
behind_object subject predicate object text = option_and_then
    (λ q. only_if (is_end q.1) (record {
      subject = subject;
      predicate = predicate;
      object = object;
      graph = q.0;
    })) (closing_in text)

-- behind its predicate
abbrev pub behind_predicate : PartText → List ℕ → List ℕ → Option LineTexts
behind_predicate subject predicate text = option_and_then
    (λ rest. option_and_then (λ q. behind_object subject predicate q.0 q.1) (part_in rest))
    (past_gap text)

-- behind its subject
abbrev pub behind_subject : PartText → List ℕ → Option LineTexts
behind_subject subject text = option_and_then
    (λ rest. option_and_then (λ q. behind_predicate subject q.0 q.1) (cut_iri rest))
    (past_gap text)

-- the parts of a line
unfoldable pub parts_in : List ℕ → Option LineTexts
parts_in line = option_and_then (λ q. behind_subject q.0 q.1) (part_in (past_gaps line))

-- ---- what parts mean

-- the IRI that is written so
abbrev pub iri_of : List ℕ → Option (List ℕ)
iri_of inner = option_and_then (λ text. only_if (is_iri text) text) (meant false inner)

-- a literal of an explicit datatype, which is not rdf:langString
abbrev pub typed_literal : List ℕ → List ℕ → Option Term
typed_literal text datatype =
    if bytes_eq datatype rdf_lang_string then None else Some (literal text datatype None)

abbrev pub with_end : List ℕ → EndText → Option Term
with_end text plain_end = Some (literal text xsd_string None)
with_end text (language_end tag) =
    if is_language tag then Some (literal text rdf_lang_string (Some tag)) else None
with_end text (datatype_end inner) = option_and_then (typed_literal text) (iri_of inner)

abbrev pub literal_of : List ℕ → EndText → Option Term
literal_of inner end = option_and_then
    (λ text. if holds_noncharacter text then None else with_end text end) (meant true inner)

abbrev pub blank_of : List ℕ → Option Term
blank_of label = only_if (is_label label) (blank (record { kind = by_label; name = label }))

-- the term
abbrev pub term_of : PartText → Option Term
term_of (iri_part inner) = option_map iri (iri_of inner)
term_of (literal_part inner end) = literal_of inner end
term_of (blank_part label) = blank_of label

-- the term, where it is no literal
abbrev pub resource_of : PartText → Option Term
resource_of (iri_part inner) = option_map iri (iri_of inner)
resource_of (literal_part inner end) = None
resource_of (blank_part label) = blank_of label

abbrev pub graph_of : Option PartText → Option (Option Term)
graph_of None = Some None
graph_of (Some named) = option_map (λ t. Some t) (resource_of named)

abbrev pub statement : Term → List ℕ → Term → Option Term → Statement
statement subject predicate object graph = record {
  subject = subject;
  predicate = predicate;
  object = object;
  graph = graph;
}

-- the statement that the parts make
unfoldable pub statement_of : LineTexts → Option Statement
statement_of l = option_and_then
    (λ s. option_and_then
    (λ p. option_and_then
    (λ o. option_map (λ g. statement s p o g) (graph_of l.graph))
    (term_of l.object)) (iri_of l.predicate)) (resource_of l.subject)

-- what a line says: nothing, or a statement; `None` where it is no line
unfoldable pub line_in : List ℕ → Option (Option Statement)
line_in line =
    if is_end line then Some None
    else option_map (λ s. Some s) (option_and_then statement_of (parts_in line))
