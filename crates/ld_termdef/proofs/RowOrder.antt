-- The rows of the table of readings, each by what it asks, and the reading that they give together.
use Rattle.std.proofs.Common.{◌≡◌, ℕ, List, [], ◌∷◌, ◌++◌, Bool, true, false, ◌&&◌, Option, Some, None, option_map, option_and_then, unwrap_or, is_none, codes, bytes_eq, if◌then◌else◌, refl, sym, ap, ◌∙◌}
use Rattle.std.specs.Prelude.{IfOk, Result, Ok, Err}
use Rattle.json_tree.specs.Places.{or_else, first_of}
use Rattle.iri_ref.specs.Characters.{first_forbidden}
use Rattle.iri_ref.specs.Components.{around_colon, is_absolute}
use Rattle.iri_ref.specs.Resolution.{resolution}
use Rattle.ld_words.specs.declared.keyword_table.LdKeyword.{LdKeyword}
use Rattle.ld_termdef.specs.declared.definition.Mapped.{Mapped}
use Rattle.ld_termdef.specs.declared.definition.TermDef.{TermDef}
use Rattle.ld_termdef.specs.declared.reading.ReadIri.{ReadIri}
use Rattle.ld_termdef.specs.declared.reading.ReadIri.TheVariants as read
use Rattle.ld_termdef.specs.declared.reading.Mode.{Mode}
use Rattle.ld_termdef.specs.Words.{keyword_of, has_keyword_form, looks_like_keyword, begins_with_slashes}
use Rattle.ld_termdef.specs.Contexts.{Context}
use Rattle.ld_termdef.specs.Iris.{has_terms, has_base, alias_of, reading_of, prefix_iri, row, blank_row, slashes_row, compact_row, vocab_row, base_row, term_rows, other_rows, reads, reads_apart}
use Rattle.ld_termdef.specs.Internal.Readings.{keyword_row, mapped_row, parts_row, colon_row, resolved_row}
use Rattle.ld_termdef.proofs.Merging.{or_else-assoc}

-- what a call gives is what another definition says
pub ok-same : {A E : Type 0} (r : Result A E) (a b : A) → IfOk r (λ x. x ≡ a) → a ≡ b → IfOk r (λ x. x ≡ b)
ok-same (Ok x) a b is same = is ∙ same
ok-same (Err e) a b is same = is

or_else-none : {A : Type 0} (a : Option A) → or_else a None ≡ a
or_else-none (Some x) = refl
or_else-none None = refl

-- ---- a keyword

-- a keyword
pub keyword_row-word : (text : List ℕ) (k : LdKeyword) → Some k ≡ keyword_of text → Some (read.Word k) ≡ keyword_row text
keyword_row-word text k is = λ j. or_else (option_map read.Word (is j)) (row (looks_like_keyword text) read.Nothing)

-- the form of one
pub keyword_row-form : (text : List ℕ) → None ≡ keyword_of text → true ≡ has_keyword_form text → Some read.Nothing ≡ keyword_row text
keyword_row-form text none form = λ j. or_else (option_map read.Word (none j)) (row (form j && is_none (none j)) read.Nothing)

-- neither
pub keyword_row-none : (text : List ℕ) → None ≡ keyword_of text → false ≡ has_keyword_form text → None ≡ keyword_row text
keyword_row-none text none form = λ j. or_else (option_map read.Word (none j)) (row (form j && is_none (none j)) read.Nothing)

-- ---- rows that look the whole text up

own_rows : (m : Mode) (o : Option TermDef) (b : Bool) → or_else (option_and_then (λ d. alias_of d.mapped) o) (or_else (if b then option_map (λ d. reading_of d.mapped) o else None) None) ≡ option_and_then (λ d. or_else (alias_of d.mapped) (row b (reading_of d.mapped))) o
own_rows m None true = refl
own_rows m None false = refl
own_rows m (Some d) true = ap (or_else (alias_of d.mapped)) (or_else-none (Some (reading_of d.mapped)))
own_rows m (Some d) false = refl

term_rows-by : (c : Context) (m : Mode) (text : List ℕ) → first_of (term_rows c m text) ≡ or_else (keyword_row text) (option_and_then (λ d. mapped_row m d.mapped) (c.terms text))
term_rows-by c m text =
    ap (λ o. or_else (option_map read.Word (keyword_of text)) (or_else (row (looks_like_keyword text) read.Nothing) o)) (own_rows m (c.terms text) (has_terms m))
    ∙ sym (or_else-assoc (option_map read.Word (keyword_of text)) (row (looks_like_keyword text) read.Nothing) (option_and_then (λ d. mapped_row m d.mapped) (c.terms text)))

-- a keyword ends the rows
pub term-keyword : (c : Context) (m : Mode) (text : List ℕ) (r : ReadIri) → Some r ≡ keyword_row text → Some r ≡ first_of (term_rows c m text)
term-keyword c m text r is = ap (λ o. or_else o (option_and_then (λ d. mapped_row m d.mapped) (c.terms text))) is ∙ sym (term_rows-by c m text)

-- a term that is defined
pub term-defined : (c : Context) (m : Mode) (text : List ℕ) (d : TermDef) → None ≡ keyword_row text → Some d ≡ c.terms text → mapped_row m d.mapped ≡ first_of (term_rows c m text)
term-defined c m text d none is =
    ap (option_and_then (λ d. mapped_row m d.mapped)) is ∙ ap (λ o. or_else o (option_and_then (λ d. mapped_row m d.mapped) (c.terms text))) none ∙ sym (term_rows-by c m text)

-- a text that is no term
pub term-none : (c : Context) (m : Mode) (text : List ℕ) → None ≡ keyword_row text → None ≡ c.terms text → None ≡ first_of (term_rows c m text)
term-none c m text none is =
    ap (option_and_then (λ d. mapped_row m d.mapped)) is ∙ ap (λ o. or_else o (option_and_then (λ d. mapped_row m d.mapped) (c.terms text))) none ∙ sym (term_rows-by c m text)

-- ---- a colon

-- a prefix
pub compact-some : (c : Context) (p s iri : List ℕ) (d : TermDef) → Some d ≡ c.terms p → Some iri ≡ prefix_iri d → Some (read.Iri (iri ++ s)) ≡ compact_row c (p, s)
compact-some c p s iri d is prefix =
    ap (option_map (λ i. read.Iri (i ++ s))) prefix ∙ ap (λ o. option_map (λ i. read.Iri (i ++ s)) (option_and_then prefix_iri o)) is

-- a term that may be no prefix
pub compact-no_prefix : (c : Context) (p s : List ℕ) (d : TermDef) → Some d ≡ c.terms p → None ≡ prefix_iri d → None ≡ compact_row c (p, s)
compact-no_prefix c p s d is prefix =
    ap (option_map (λ i. read.Iri (i ++ s))) prefix ∙ ap (λ o. option_map (λ i. read.Iri (i ++ s)) (option_and_then prefix_iri o)) is

-- no term
pub compact-no_term : (c : Context) (p s : List ℕ) → None ≡ c.terms p → None ≡ compact_row c (p, s)
compact-no_term c p s is = ap (λ o. option_map (λ i. read.Iri (i ++ s)) (option_and_then prefix_iri o)) is

-- a blank node identifier
pub parts-blank : (c : Context) (text p s : List ℕ) → true ≡ bytes_eq p (codes "_") → Some (read.Blank s) ≡ parts_row c text (p, s)
parts-blank c text p s blank = ap (λ b. or_else (row b (read.Blank s)) (or_else (slashes_row text (p, s)) (compact_row c (p, s)))) blank

-- slashes behind the colon
pub parts-slashes : (c : Context) (text p s : List ℕ) → false ≡ bytes_eq p (codes "_") → true ≡ begins_with_slashes s → Some (read.Iri text) ≡ parts_row c text (p, s)
parts-slashes c text p s blank slashes = λ j. or_else (row (blank j) (read.Blank s)) (or_else (row (slashes j) (read.Iri text)) (compact_row c (p, s)))

-- another text with a colon
pub parts-compact : (c : Context) (text p s : List ℕ) → false ≡ bytes_eq p (codes "_") → false ≡ begins_with_slashes s → compact_row c (p, s) ≡ parts_row c text (p, s)
parts-compact c text p s blank slashes = λ j. or_else (row (blank j) (read.Blank s)) (or_else (row (slashes j) (read.Iri text)) (compact_row c (p, s)))

-- a text that is parted
pub colon-parts : (c : Context) (text p s : List ℕ) → Some (p, s) ≡ around_colon text → parts_row c text (p, s) ≡ colon_row c text
colon-parts c text p s is = ap (option_and_then (parts_row c text)) is

-- one that is not
pub colon-none : (c : Context) (text : List ℕ) → None ≡ around_colon text → None ≡ colon_row c text
colon-none c text is = ap (option_and_then (parts_row c text)) is

-- ---- the vocabulary and the base

-- the mode does not look at the vocabulary
pub vocab-no_mode : (c : Context) (m : Mode) (text : List ℕ) → false ≡ has_terms m → None ≡ vocab_row c m text
vocab-no_mode c m text mode = ap (λ b. if b then option_map (λ v. read.Iri (v ++ text)) c.vocab else None) mode

-- there is one
pub vocab-some : (c : Context) (m : Mode) (text v : List ℕ) → true ≡ has_terms m → Some v ≡ c.vocab → Some (read.Iri (v ++ text)) ≡ vocab_row c m text
vocab-some c m text v mode is = λ j. if mode j then option_map (λ v. read.Iri (v ++ text)) (is j) else None

-- there is none
pub vocab-none : (c : Context) (m : Mode) (text : List ℕ) → true ≡ has_terms m → None ≡ c.vocab → None ≡ vocab_row c m text
vocab-none c m text mode is = λ j. if mode j then option_map (λ v. read.Iri (v ++ text)) (is j) else None

-- the mode does not look at the base
pub base-no_mode : (c : Context) (m : Mode) (text : List ℕ) → false ≡ has_base m → None ≡ base_row c m text
base-no_mode c m text mode = ap (λ b. if b && is_none (first_forbidden text) then option_map (λ base. read.Iri (resolution base text)) c.base else None) mode

by_allowed : (b : List ℕ) (text : List ℕ) (allowed : Bool) → row allowed (read.Iri (resolution b text)) ≡ (if allowed then option_map (λ base. read.Iri (resolution base text)) (Some b) else None)
by_allowed b text true = refl
by_allowed b text false = refl

-- there is one
pub base-some : (c : Context) (m : Mode) (text b : List ℕ) → true ≡ has_base m → Some b ≡ c.base → resolved_row b text ≡ base_row c m text
base-some c m text b mode is =
    by_allowed b text (is_none (first_forbidden text))
    ∙ (λ j. if mode j && is_none (first_forbidden text) then option_map (λ base. read.Iri (resolution base text)) (is j) else None)

by_none : (text : List ℕ) (allowed : Bool) → None ≡ (if allowed then option_map (λ base. read.Iri (resolution base text)) None else None)
by_none text true = refl
by_none text false = refl

-- there is none
pub base-none : (c : Context) (m : Mode) (text : List ℕ) → true ≡ has_base m → None ≡ c.base → None ≡ base_row c m text
base-none c m text mode is =
    by_none text (is_none (first_forbidden text))
    ∙ (λ j. if mode j && is_none (first_forbidden text) then option_map (λ base. read.Iri (resolution base text)) (is j) else None)

-- a reference at a base
pub resolved-some : (b text iri : List ℕ) → iri ≡ resolution b text → first_forbidden text ≡ None → Some (read.Iri iri) ≡ resolved_row b text
resolved-some b text iri is allowed = λ j. row (is_none (sym allowed j)) (read.Iri (is j))

-- a text that holds what no IRI holds
pub resolved-none : (b text : List ℕ) (at : ℕ) → first_forbidden text ≡ Some at → None ≡ resolved_row b text
resolved-none b text at refused = λ j. row (is_none (sym refused j)) (read.Iri (resolution b text))

-- ---- the other rows together

colon_rows : (c : Context) (text : List ℕ) (parts : Option (List ℕ × List ℕ)) → or_else (option_and_then blank_row parts) (or_else (option_and_then (slashes_row text) parts) (option_and_then (compact_row c) parts)) ≡ option_and_then (parts_row c text) parts
colon_rows c text None = refl
colon_rows c text (Some parts) = refl

other_rows-by : (c : Context) (m : Mode) (text : List ℕ) → first_of (other_rows c m text) ≡ or_else (colon_row c text) (or_else (row (is_absolute text) (read.Iri text)) (or_else (vocab_row c m text) (base_row c m text)))
other_rows-by c m text =
    let rest = or_else (row (is_absolute text) (read.Iri text)) (or_else (vocab_row c m text) (base_row c m text)) in
    let last : or_else (row (is_absolute text) (read.Iri text)) (or_else (vocab_row c m text) (or_else (base_row c m text) None)) ≡ rest = ap (λ o. or_else (row (is_absolute text) (read.Iri text)) (or_else (vocab_row c m text) o)) (or_else-none (base_row c m text)) in
    let blank = option_and_then blank_row (around_colon text) in
    let slashes = option_and_then (slashes_row text) (around_colon text) in
    let compact = option_and_then (compact_row c) (around_colon text) in
    ap (λ o. or_else blank (or_else slashes (or_else compact o))) last
    ∙ ap (or_else blank) (sym (or_else-assoc slashes compact rest))
    ∙ sym (or_else-assoc blank (or_else slashes compact) rest)
    ∙ ap (λ o. or_else o rest) (colon_rows c text (around_colon text))

-- a row of a colon ends the rows
pub other-colon : (c : Context) (m : Mode) (text : List ℕ) (r : ReadIri) → Some r ≡ colon_row c text → Some r ≡ first_of (other_rows c m text)
other-colon c m text r is =
    ap (λ o. or_else o (or_else (row (is_absolute text) (read.Iri text)) (or_else (vocab_row c m text) (base_row c m text)))) is ∙ sym (other_rows-by c m text)

-- an absolute IRI
pub other-absolute : (c : Context) (m : Mode) (text : List ℕ) → None ≡ colon_row c text → true ≡ is_absolute text → Some (read.Iri text) ≡ first_of (other_rows c m text)
other-absolute c m text none absolute =
    (λ j. or_else (none j) (or_else (row (absolute j) (read.Iri text)) (or_else (vocab_row c m text) (base_row c m text)))) ∙ sym (other_rows-by c m text)

-- the vocabulary
pub other-vocab : (c : Context) (m : Mode) (text : List ℕ) (r : ReadIri) → None ≡ colon_row c text → false ≡ is_absolute text → Some r ≡ vocab_row c m text → Some r ≡ first_of (other_rows c m text)
other-vocab c m text r none absolute is =
    (λ j. or_else (none j) (or_else (row (absolute j) (read.Iri text)) (or_else (is j) (base_row c m text)))) ∙ sym (other_rows-by c m text)

-- and the base last
pub other-base : (c : Context) (m : Mode) (text : List ℕ) → None ≡ colon_row c text → false ≡ is_absolute text → None ≡ vocab_row c m text → base_row c m text ≡ first_of (other_rows c m text)
other-base c m text none absolute is =
    (λ j. or_else (none j) (or_else (row (absolute j) (read.Iri text)) (or_else (is j) (base_row c m text)))) ∙ sym (other_rows-by c m text)

-- ---- the whole table

first_of-both : {A : Type 0} (xs ys : List (Option A)) → first_of (xs ++ ys) ≡ or_else (first_of xs) (first_of ys)
first_of-both [] ys = refl
first_of-both (x ∷ xs) ys = ap (or_else x) (first_of-both xs ys) ∙ sym (or_else-assoc x (first_of xs) (first_of ys))

whole : (c : Context) (m : Mode) (text : List ℕ) → unwrap_or (or_else (first_of (term_rows c m text)) (first_of (other_rows c m text))) (read.Relative text) ≡ reads c m text
whole c m text = ap (λ o. unwrap_or o (read.Relative text)) (sym (first_of-both (term_rows c m text) (other_rows c m text)))

-- a row that looks the text up ends the table
pub reads-term : (c : Context) (m : Mode) (text : List ℕ) (r : ReadIri) → Some r ≡ first_of (term_rows c m text) → r ≡ reads c m text
reads-term c m text r is = ap (λ o. unwrap_or (or_else o (first_of (other_rows c m text))) (read.Relative text)) is ∙ whole c m text

-- and else one of the others
pub reads-other : (c : Context) (m : Mode) (text : List ℕ) (r : ReadIri) → None ≡ first_of (term_rows c m text) → Some r ≡ first_of (other_rows c m text) → r ≡ reads c m text
reads-other c m text r none is = (λ j. unwrap_or (or_else (none j) (is j)) (read.Relative text)) ∙ whole c m text

-- or the text is relative
pub reads-relative : (c : Context) (m : Mode) (text : List ℕ) → None ≡ first_of (term_rows c m text) → None ≡ first_of (other_rows c m text) → read.Relative text ≡ reads c m text
reads-relative c m text none other = (λ j. unwrap_or (or_else (none j) (other j)) (read.Relative text)) ∙ whole c m text

pub ruleset keyword_steps = (keyword_row-word, keyword_row-form, keyword_row-none)

pub ruleset term_steps = (term-keyword, term-defined, term-none, ok-same)

pub ruleset compact_steps = (compact-some, compact-no_prefix, compact-no_term)

pub ruleset parts_steps = (parts-blank, parts-slashes, parts-compact, ok-same)

pub ruleset colon_steps = (colon-parts, colon-none, ok-same)

pub ruleset vocab_steps = (vocab-no_mode, vocab-some, vocab-none)

pub ruleset base_steps = (base-no_mode, base-some, base-none, ok-same)

pub ruleset resolved_steps = (resolved-some, resolved-none)

pub ruleset other_steps = (other-colon, other-absolute, other-vocab, other-base, ok-same)

pub ruleset reads_steps = (reads-term, reads-other, reads-relative)
