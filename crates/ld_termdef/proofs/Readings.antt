-- What a reading asks of a context, and what it does not.
use Rattle.std.proofs.Common.{◌≡◌, ℕ, List, [], ◌∷◌, ◌++◌, Bool, true, false, ◌&&◌, Option, Some, None, option_map, option_and_then, unwrap_or, is_none, if◌then◌else◌, refl, ap}
use Rattle.json_tree.specs.Places.{first_of}
use Rattle.ld_words.specs.declared.keyword_table.LdKeyword.{LdKeyword}
use Rattle.ld_termdef.specs.declared.reading.ReadIri.{ReadIri}
use Rattle.ld_termdef.specs.declared.reading.ReadIri.TheVariants as read
use Rattle.ld_termdef.specs.declared.reading.Mode.{Mode}
use Rattle.ld_termdef.specs.declared.reading.Mode.TheVariants as mode
use Rattle.ld_termdef.specs.Words.{keyword_of, looks_like_keyword, has_keyword_form}
use Rattle.ld_termdef.specs.Contexts.{Context}
use Rattle.ld_termdef.specs.Iris.{has_terms, alias_of, reading_of, row, other_rows, reads}

-- how a text is read, with what the first two rows ask
abbrev first_rows : Context → Mode → List ℕ → Option LdKeyword → Bool → ReadIri
first_rows c m text word like =
    unwrap_or (first_of ((option_map read.Word word ∷ row like read.Nothing ∷ option_and_then (λ d. alias_of d.mapped) (c.terms text) ∷ (if has_terms m then option_map (λ d. reading_of d.mapped) (c.terms text) else None) ∷ []) ++ other_rows c m text)) (read.Relative text)

-- a keyword reads as itself
pub reads_keyword : (c : Context) (m : Mode) (text : List ℕ) (k : LdKeyword) → keyword_of text ≡ Some k → reads c m text ≡ read.Word k
reads_keyword c m text k is = ap (λ word. first_rows c m text word (looks_like_keyword text)) is

form_row : (c : Context) (m : Mode) (text : List ℕ) (form : Bool) (word : Option LdKeyword) → (form && is_none word) ≡ true → first_rows c m text word (form && is_none word) ≡ read.Nothing
form_row c m text true None is = refl
form_row c m text true (Some k) is = absurd (cc)
form_row c m text false word is = absurd (cc)

-- what looks like a keyword reads as nothing
pub reads_nothing : (c : Context) (m : Mode) (text : List ℕ) → looks_like_keyword text ≡ true → reads c m text ≡ read.Nothing
reads_nothing c m text is = form_row c m text (has_keyword_form text) (keyword_of text) is

-- the vocabulary does not matter in mode Document
pub document_mode : (c d : Context) (text : List ℕ) → c.base ≡ d.base → ((t : List ℕ) → c.terms t ≡ d.terms t) → reads c mode.Document text ≡ reads d mode.Document text
document_mode c d text base terms = λ j. reads (record c { base = base j; terms = λ t. terms t j }) mode.Document text

-- the base does not matter in mode Vocab
pub vocab_mode : (c d : Context) (text : List ℕ) → c.vocab ≡ d.vocab → ((t : List ℕ) → c.terms t ≡ d.terms t) → reads c mode.Vocab text ≡ reads d mode.Vocab text
vocab_mode c d text vocab terms = λ j. reads (record c { vocab = vocab j; terms = λ t. terms t j }) mode.Vocab text
