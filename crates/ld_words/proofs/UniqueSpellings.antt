-- No two words of a kind are spelled alike, since each is word_of by its spelling.
use Rattle.std.proofs.Common.{◌≡◌, ℕ, List as ListOf, [], ◌∷◌, Bool, cond, find, Option, Some, None, ◌↔◌, ◌≢◌, ◌<◌, ◌+◌, true, false, length, get_or, drop, drop-cons, add-one, refl, sym, ap, ◌∙◌, ◌==◌, ◌&&◌, not, codes, arith}
use Rattle.std.proofs.lemmas.Slice.Eq.{bytes_eq-Decides}
use Rattle.std.specs.Str.{bytes_eq}
use Rattle.ld_words.specs.declared.keyword_table.LdKeyword.{LdKeyword}
use Rattle.ld_words.specs.declared.keyword_table.LdKeyword.TheVariants.{Base, Container, Context, Direction, Graph, Id, Import, Included, Index, Json, Language, List, Nest, Absent, Prefix, Propagate, Protected, Reverse, Set, Kind, Value, Version, Vocab}
use Rattle.ld_words.specs.declared.code_table.Code.{Code}
use Rattle.ld_words.specs.declared.code_table.Code.TheVariants.{InvalidContextNullification, LoadingRemoteContextFailed, InvalidRemoteContext, ContextOverflow, InvalidLocalContext, InvalidVersionValue, InvalidImportValue, InvalidContextEntry, InvalidBaseIri, InvalidVocabMapping, InvalidDefaultLanguage, InvalidBaseDirection, InvalidPropagateValue, InvalidProtectedValue, CyclicIriMapping, InvalidTermDefinition, KeywordRedefinition, InvalidIriMapping, InvalidReverseProperty, InvalidKeywordAlias, InvalidPrefixValue, InvalidTypeMapping, InvalidContainerMapping, InvalidLanguageMapping, InvalidNestValue, ProtectedTermRedefinition, CollidingKeywords, InvalidIdValue, InvalidTypeValue, InvalidIndexValue, InvalidIncludedValue, InvalidReverseValue, InvalidReversePropertyMap, InvalidValueObject, InvalidReversePropertyValue, InvalidSetOrListObject, InvalidLanguageMapValue, InvalidLanguageTaggedString, InvalidTypedValue, InvalidValueObjectValue, InvalidLanguageTaggedValue, IriConfusedWithPrefix, UnmappedProperty, BlankPredicate, NotAnAbsoluteIri, StrayKeyword, LooseValue, NumberNotCarried, TextNotCarried}
use Rattle.std.specs.List.{list_all, starts_with}
use Rattle.std.specs.Char.{is_ascii_alphabetic}
use Rattle.ld_words.specs.Spellings.{keywords, keyword_of, keyword_text, code_text, has_keyword_form, is_empty}

-- the first of the words that is spelled so
abbrev pub word_of : {K : Type 0} → (K → ListOf ℕ) → ListOf K → ListOf ℕ → Option K
word_of spell ks text = find (λ k. bytes_eq (spell k) text) ks

-- words that are found by their spellings differ in them
differ : {K : Type 0} (spell : K → ListOf ℕ) (ks : ListOf K) → ((k : K) → word_of spell ks (spell k) ≡ Some k) → (j k : K) → spell j ≡ spell k → j ≡ k
differ spell ks back j k e = let same : Some j ≡ Some k = sym (back j) ∙ ap (word_of spell ks) e ∙ back k in cc

-- each keyword is found by its spelling
keyword_back : (k : LdKeyword) → word_of keyword_text keywords (keyword_text k) ≡ Some k
keyword_back Base = refl
keyword_back Container = refl
keyword_back Context = refl
keyword_back Direction = refl
keyword_back Graph = refl
keyword_back Id = refl
keyword_back Import = refl
keyword_back Included = refl
keyword_back Index = refl
keyword_back Json = refl
keyword_back Language = refl
keyword_back List = refl
keyword_back Nest = refl
keyword_back Absent = refl
keyword_back Prefix = refl
keyword_back Propagate = refl
keyword_back Protected = refl
keyword_back Reverse = refl
keyword_back Set = refl
keyword_back Kind = refl
keyword_back Value = refl
keyword_back Version = refl
keyword_back Vocab = refl

-- keywords that are spelled alike are one
pub keyword_text_differs : (j k : LdKeyword) → keyword_text j ≡ keyword_text k → j ≡ k
keyword_text_differs = differ keyword_text keywords keyword_back

-- every code
abbrev pub all_codes : ListOf Code
all_codes = InvalidContextNullification ∷ LoadingRemoteContextFailed ∷ InvalidRemoteContext ∷ ContextOverflow ∷ InvalidLocalContext ∷ InvalidVersionValue ∷ InvalidImportValue ∷ InvalidContextEntry ∷ InvalidBaseIri ∷ InvalidVocabMapping ∷ InvalidDefaultLanguage ∷ InvalidBaseDirection ∷ InvalidPropagateValue ∷ InvalidProtectedValue ∷ CyclicIriMapping ∷ InvalidTermDefinition ∷ KeywordRedefinition ∷ InvalidIriMapping ∷ InvalidReverseProperty ∷ InvalidKeywordAlias ∷ InvalidPrefixValue ∷ InvalidTypeMapping ∷ InvalidContainerMapping ∷ InvalidLanguageMapping ∷ InvalidNestValue ∷ ProtectedTermRedefinition ∷ CollidingKeywords ∷ InvalidIdValue ∷ InvalidTypeValue ∷ InvalidIndexValue ∷ InvalidIncludedValue ∷ InvalidReverseValue ∷ InvalidReversePropertyMap ∷ InvalidValueObject ∷ InvalidReversePropertyValue ∷ InvalidSetOrListObject ∷ InvalidLanguageMapValue ∷ InvalidLanguageTaggedString ∷ InvalidTypedValue ∷ InvalidValueObjectValue ∷ InvalidLanguageTaggedValue ∷ IriConfusedWithPrefix ∷ UnmappedProperty ∷ BlankPredicate ∷ NotAnAbsoluteIri ∷ StrayKeyword ∷ LooseValue ∷ NumberNotCarried ∷ TextNotCarried ∷ []

-- each code is found by its spelling
code_back : (k : Code) → word_of code_text all_codes (code_text k) ≡ Some k
code_back InvalidContextNullification = refl
code_back LoadingRemoteContextFailed = refl
code_back InvalidRemoteContext = refl
code_back ContextOverflow = refl
code_back InvalidLocalContext = refl
code_back InvalidVersionValue = refl
code_back InvalidImportValue = refl
code_back InvalidContextEntry = refl
code_back InvalidBaseIri = refl
code_back InvalidVocabMapping = refl
code_back InvalidDefaultLanguage = refl
code_back InvalidBaseDirection = refl
code_back InvalidPropagateValue = refl
code_back InvalidProtectedValue = refl
code_back CyclicIriMapping = refl
code_back InvalidTermDefinition = refl
code_back KeywordRedefinition = refl
code_back InvalidIriMapping = refl
code_back InvalidReverseProperty = refl
code_back InvalidKeywordAlias = refl
code_back InvalidPrefixValue = refl
code_back InvalidTypeMapping = refl
code_back InvalidContainerMapping = refl
code_back InvalidLanguageMapping = refl
code_back InvalidNestValue = refl
code_back ProtectedTermRedefinition = refl
code_back CollidingKeywords = refl
code_back InvalidIdValue = refl
code_back InvalidTypeValue = refl
code_back InvalidIndexValue = refl
code_back InvalidIncludedValue = refl
code_back InvalidReverseValue = refl
code_back InvalidReversePropertyMap = refl
code_back InvalidValueObject = refl
code_back InvalidReversePropertyValue = refl
code_back InvalidSetOrListObject = refl
code_back InvalidLanguageMapValue = refl
code_back InvalidLanguageTaggedString = refl
code_back InvalidTypedValue = refl
code_back InvalidValueObjectValue = refl
code_back InvalidLanguageTaggedValue = refl
code_back IriConfusedWithPrefix = refl
code_back UnmappedProperty = refl
code_back BlankPredicate = refl
code_back NotAnAbsoluteIri = refl
code_back StrayKeyword = refl
code_back LooseValue = refl
code_back NumberNotCarried = refl
code_back TextNotCarried = refl

-- codes that are spelled alike are one
pub code_text_differs : (j k : Code) → code_text j ≡ code_text k → j ≡ k
code_text_differs = differ code_text all_codes code_back

-- a step of the search that misses
pub word_of-misses : {K : Type 0} (spell : K → ListOf ℕ) (ks : ListOf K) (i : ℕ) (text : ListOf ℕ) (d : K) → i < length ks → bytes_eq (spell (get_or ks i d)) text ≡ false → word_of spell (drop (i + 1) ks) text ≡ word_of spell (drop i ks) text
word_of-misses spell ks i text d h miss = rw (add-one, drop-cons ks i d) (rw miss refl)

-- a step that hits
pub word_of-hits : {K : Type 0} (spell : K → ListOf ℕ) (ks : ListOf K) (i : ℕ) (text : ListOf ℕ) (d : K) → i < length ks → bytes_eq (spell (get_or ks i d)) text ≡ true → word_of spell (drop i ks) text ≡ Some (get_or ks i d)
word_of-hits spell ks i text d h hit = rw (drop-cons ks i d) (rw hit refl)

-- what is found is spelled so, by the first word
by_head : {K : Type 0} (spell : K → ListOf ℕ) (j : K) (ks : ListOf K) (text : ListOf ℕ) (k : K) → (word_of spell ks text ≡ Some k → text ≡ spell k) → (b : Bool) → bytes_eq (spell j) text ≡ b → cond b (Some j) (word_of spell ks text) ≡ Some k → text ≡ spell k
by_head spell j ks text k later true t e = let same : j ≡ k = cc in rw (← same) (sym ((bytes_eq-Decides (spell j) text).0 t))
by_head spell j ks text k later false t e = later e

-- what is found is spelled so
is_spelled : {K : Type 0} (spell : K → ListOf ℕ) (ks : ListOf K) (text : ListOf ℕ) (k : K) → word_of spell ks text ≡ Some k → text ≡ spell k
is_spelled spell [] text k e = cc
is_spelled spell (j ∷ ks) text k e = by_head spell j ks text k (is_spelled spell ks text k) (bytes_eq (spell j) text) refl e

-- a text is a keyword where the search finds it
pub keyword_some : (text : ListOf ℕ) (r : Option LdKeyword) → word_of keyword_text keywords text ≡ r → (k : LdKeyword) → (r ≡ Some k) ↔ (text ≡ keyword_text k)
keyword_some text r e k = (λ s. is_spelled keyword_text keywords text k (e ∙ s), λ s. sym e ∙ ap (word_of keyword_text keywords) s ∙ keyword_back k)

-- a text has at most one keyword
pub keyword_of-exact : (text : ListOf ℕ) (k : LdKeyword) → (keyword_of text ≡ Some k) ↔ (text ≡ keyword_text k)
keyword_of-exact text k = keyword_some text (keyword_of text) refl k

-- what says of each keyword whether a text spells it says which one it is
pub keyword_found : (text : ListOf ℕ) (r : Option LdKeyword) → ((k : LdKeyword) → (r ≡ Some k) ↔ (text ≡ keyword_text k)) → r ≡ keyword_of text
keyword_found text (Some k) exact = sym ((keyword_of-exact text k).1 ((exact k).0 refl))
keyword_found text None exact = go (keyword_of text) refl
  where
    go : (o : Option LdKeyword) → keyword_of text ≡ o → None ≡ o
    go None is = refl
    go (Some k) is = let found : None ≡ Some k = (exact k).1 ((keyword_of-exact text k).0 is) in absurd (cc)

-- a text is no keyword where the search finds none
pub keyword_none : (text : ListOf ℕ) (r : Option LdKeyword) → word_of keyword_text keywords text ≡ r → (r ≡ None) ↔ ((k : LdKeyword) → text ≢ keyword_text k)
keyword_none text None e = (λ n k s. let other : word_of keyword_text keywords text ≡ Some k = ap (word_of keyword_text keywords) s ∙ keyword_back k in cc, λ h. refl)
keyword_none text (Some k) e = (λ n. cc, λ h. absurd (h k (is_spelled keyword_text keywords text k e)))

-- each keyword has the form of one
pub keyword_text-form : (k : LdKeyword) → has_keyword_form (keyword_text k) ≡ true
keyword_text-form Base = refl
keyword_text-form Container = refl
keyword_text-form Context = refl
keyword_text-form Direction = refl
keyword_text-form Graph = refl
keyword_text-form Id = refl
keyword_text-form Import = refl
keyword_text-form Included = refl
keyword_text-form Index = refl
keyword_text-form Json = refl
keyword_text-form Language = refl
keyword_text-form List = refl
keyword_text-form Nest = refl
keyword_text-form Absent = refl
keyword_text-form Prefix = refl
keyword_text-form Propagate = refl
keyword_text-form Protected = refl
keyword_text-form Reverse = refl
keyword_text-form Set = refl
keyword_text-form Kind = refl
keyword_text-form Value = refl
keyword_text-form Version = refl
keyword_text-form Vocab = refl

-- each keyword begins with `@`
keyword_text-sign : (k : LdKeyword) → starts_with ◌==◌ (keyword_text k) (codes "@") ≡ true
keyword_text-sign Base = refl
keyword_text-sign Container = refl
keyword_text-sign Context = refl
keyword_text-sign Direction = refl
keyword_text-sign Graph = refl
keyword_text-sign Id = refl
keyword_text-sign Import = refl
keyword_text-sign Included = refl
keyword_text-sign Index = refl
keyword_text-sign Json = refl
keyword_text-sign Language = refl
keyword_text-sign List = refl
keyword_text-sign Nest = refl
keyword_text-sign Absent = refl
keyword_text-sign Prefix = refl
keyword_text-sign Propagate = refl
keyword_text-sign Protected = refl
keyword_text-sign Reverse = refl
keyword_text-sign Set = refl
keyword_text-sign Kind = refl
keyword_text-sign Value = refl
keyword_text-sign Version = refl
keyword_text-sign Vocab = refl

-- so a text that does not is no keyword, by what is found
none_of : (text : ListOf ℕ) (r : Option LdKeyword) → word_of keyword_text keywords text ≡ r → starts_with ◌==◌ text (codes "@") ≡ false → word_of keyword_text keywords text ≡ None
none_of text None e s = e
none_of text (Some k) e s = let same : text ≡ keyword_text k = is_spelled keyword_text keywords text k e in let sign : starts_with ◌==◌ text (codes "@") ≡ true = rw same (keyword_text-sign k) in absurd (cc (sign, s))

-- so a text that does not is no keyword
pub no_sign : (text : ListOf ℕ) → starts_with ◌==◌ text (codes "@") ≡ false → word_of keyword_text keywords text ≡ None
no_sign text e = none_of text (word_of keyword_text keywords text) refl e

-- letters are one or more where a byte is there
pub some_letters : (bytes : ListOf ℕ) (all : Bool) → 0 < length bytes → all ≡ list_all is_ascii_alphabetic bytes → all ≡ (not (is_empty bytes) && list_all is_ascii_alphabetic bytes)
some_letters [] all h e = absurd (omega (arith, h))
some_letters (b ∷ bs) all h e = e
