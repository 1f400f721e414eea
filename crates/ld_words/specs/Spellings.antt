-- The spelling of each keyword and of each error code: the one table of both.
-- And the form of a keyword.
use Rattle.std.specs.Prelude.{ℕ, List as ListOf, [], ◌∷◌, Bool, true, false, not, ◌&&◌, ◌==◌, Option, find, codes}
use Rattle.std.specs.List.{list_all}
use Rattle.std.specs.Str.{bytes_eq}
use Rattle.std.specs.Char.{is_ascii_alphabetic}
use Rattle.ld_words.specs.declared.keyword_table.LdKeyword.{LdKeyword}
use Rattle.ld_words.specs.declared.keyword_table.LdKeyword.TheVariants.{Base, Container, Context, Direction, Graph, Id, Import, Included, Index, Json, Language, List, Nest, Absent, Prefix, Propagate, Protected, Reverse, Set, Kind, Value, Version, Vocab}
use Rattle.ld_words.specs.declared.code_table.Code.{Code}
use Rattle.ld_words.specs.declared.code_table.Code.TheVariants.{InvalidContextNullification, LoadingRemoteContextFailed, InvalidRemoteContext, ContextOverflow, InvalidLocalContext, InvalidVersionValue, InvalidImportValue, InvalidContextEntry, InvalidBaseIri, InvalidVocabMapping, InvalidDefaultLanguage, InvalidBaseDirection, InvalidPropagateValue, InvalidProtectedValue, CyclicIriMapping, InvalidTermDefinition, KeywordRedefinition, InvalidIriMapping, InvalidReverseProperty, InvalidKeywordAlias, InvalidPrefixValue, InvalidTypeMapping, InvalidContainerMapping, InvalidLanguageMapping, InvalidNestValue, ProtectedTermRedefinition, CollidingKeywords, InvalidIdValue, InvalidTypeValue, InvalidIndexValue, InvalidIncludedValue, InvalidReverseValue, InvalidReversePropertyMap, InvalidValueObject, InvalidReversePropertyValue, InvalidSetOrListObject, InvalidLanguageMapValue, InvalidLanguageTaggedString, InvalidTypedValue, InvalidValueObjectValue, InvalidLanguageTaggedValue, IriConfusedWithPrefix, UnmappedProperty, BlankPredicate, NotAnAbsoluteIri, StrayKeyword, LooseValue, NumberNotCarried, TextNotCarried}

-- how a keyword is spelled. -- JSON-LD 1.1, 1.7, Syntax Tokens and Keywords
abbrev pub keyword_text : LdKeyword → ListOf ℕ
keyword_text Base = codes "@base"
keyword_text Container = codes "@container"
keyword_text Context = codes "@context"
keyword_text Direction = codes "@direction"
keyword_text Graph = codes "@graph"
keyword_text Id = codes "@id"
keyword_text Import = codes "@import"
keyword_text Included = codes "@included"
keyword_text Index = codes "@index"
keyword_text Json = codes "@json"
keyword_text Language = codes "@language"
keyword_text List = codes "@list"
keyword_text Nest = codes "@nest"
keyword_text Absent = codes "@none"
keyword_text Prefix = codes "@prefix"
keyword_text Propagate = codes "@propagate"
keyword_text Protected = codes "@protected"
keyword_text Reverse = codes "@reverse"
keyword_text Set = codes "@set"
keyword_text Kind = codes "@type"
keyword_text Value = codes "@value"
keyword_text Version = codes "@version"
keyword_text Vocab = codes "@vocab"

-- every keyword, each once, in the order of the spellings. -- JSON-LD 1.1, 1.7
abbrev pub keywords : ListOf LdKeyword
keywords =
    Base ∷ Container ∷ Context ∷ Direction ∷ Graph ∷ Id ∷ Import ∷ Included ∷ Index ∷ Json
    ∷ Language ∷ List ∷ Nest ∷ Absent ∷ Prefix ∷ Propagate ∷ Protected ∷ Reverse ∷ Set ∷ Kind
    ∷ Value ∷ Version ∷ Vocab ∷ []

-- the keyword that a text spells, where it spells one
abbrev pub keyword_of : ListOf ℕ → Option LdKeyword
keyword_of text = find (λ k. bytes_eq (keyword_text k) text) keywords

-- whether a text is empty
abbrev pub is_empty : ListOf ℕ → Bool
is_empty [] = true
is_empty (c ∷ rest) = false

-- `@` and one or more letters, the form of a keyword.
-- JSON-LD 1.1 API, 4.2.2 and 5.2.2: "@"1*ALPHA
abbrev pub has_keyword_form : ListOf ℕ → Bool
has_keyword_form [] = false
has_keyword_form (c ∷ rest) = (c == 64) && not (is_empty rest) && list_all is_ascii_alphabetic rest

-- how an error code is spelled: the codes of the standard, and from `unmapped property` on our own.
-- JSON-LD 1.1 API, 9.6, JsonLdErrorCode
abbrev pub code_text : Code → ListOf ℕ
code_text InvalidContextNullification = codes "invalid context nullification"
code_text LoadingRemoteContextFailed = codes "loading remote context failed"
code_text InvalidRemoteContext = codes "invalid remote context"
code_text ContextOverflow = codes "context overflow"
code_text InvalidLocalContext = codes "invalid local context"
code_text InvalidVersionValue = codes "invalid @version value"
code_text InvalidImportValue = codes "invalid @import value"
code_text InvalidContextEntry = codes "invalid context entry"
code_text InvalidBaseIri = codes "invalid base IRI"
code_text InvalidVocabMapping = codes "invalid vocab mapping"
code_text InvalidDefaultLanguage = codes "invalid default language"
code_text InvalidBaseDirection = codes "invalid base direction"
code_text InvalidPropagateValue = codes "invalid @propagate value"
code_text InvalidProtectedValue = codes "invalid @protected value"
code_text CyclicIriMapping = codes "cyclic IRI mapping"
code_text InvalidTermDefinition = codes "invalid term definition"
code_text KeywordRedefinition = codes "keyword redefinition"
code_text InvalidIriMapping = codes "invalid IRI mapping"
code_text InvalidReverseProperty = codes "invalid reverse property"
code_text InvalidKeywordAlias = codes "invalid keyword alias"
code_text InvalidPrefixValue = codes "invalid @prefix value"
code_text InvalidTypeMapping = codes "invalid type mapping"
code_text InvalidContainerMapping = codes "invalid container mapping"
code_text InvalidLanguageMapping = codes "invalid language mapping"
code_text InvalidNestValue = codes "invalid @nest value"
code_text ProtectedTermRedefinition = codes "protected term redefinition"
code_text CollidingKeywords = codes "colliding keywords"
code_text InvalidIdValue = codes "invalid @id value"
code_text InvalidTypeValue = codes "invalid type value"
code_text InvalidIndexValue = codes "invalid @index value"
code_text InvalidIncludedValue = codes "invalid @included value"
code_text InvalidReverseValue = codes "invalid @reverse value"
code_text InvalidReversePropertyMap = codes "invalid reverse property map"
code_text InvalidValueObject = codes "invalid value object"
code_text InvalidReversePropertyValue = codes "invalid reverse property value"
code_text InvalidSetOrListObject = codes "invalid set or list object"
code_text InvalidLanguageMapValue = codes "invalid language map value"
code_text InvalidLanguageTaggedString = codes "invalid language-tagged string"
code_text InvalidTypedValue = codes "invalid typed value"
code_text InvalidValueObjectValue = codes "invalid value object value"
code_text InvalidLanguageTaggedValue = codes "invalid language-tagged value"
code_text IriConfusedWithPrefix = codes "IRI confused with prefix"
code_text UnmappedProperty = codes "unmapped property"
code_text BlankPredicate = codes "blank predicate"
code_text NotAnAbsoluteIri = codes "not an absolute IRI"
code_text StrayKeyword = codes "stray keyword"
code_text LooseValue = codes "loose value"
code_text NumberNotCarried = codes "number not carried"
code_text TextNotCarried = codes "text not carried"
