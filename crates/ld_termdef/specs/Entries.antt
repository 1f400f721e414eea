-- The entries of a context object, and which of them define a term.
-- JSON-LD 1.1 API, 4.1.2, step 5.13, and 4.2.2, steps 3 to 9
use Rattle.std.specs.Prelude.{ℕ, List, [], ◌∷◌, ◌++◌, map, Bool, true, false, ◌&&◌, ◌||◌, not, Option, Some, None, option_and_then, find, is_none, is_some, codes, if◌then◌else◌}
use Rattle.std.specs.List.{list_any}
use Rattle.std.specs.Str.{bytes_eq}
use Rattle.json_tree.specs.declared.tree.Tree.{Tree, out-Tree}
use Rattle.json_tree.specs.declared.tree.Tree.TheOpen.{Tree-F}
use Rattle.json_tree.specs.declared.tree.Tree.TheVariants as v
use Rattle.json_tree.specs.declared.tree.Member.{Member}
use Rattle.json_tree.specs.declared.place.Step.{Step}
use Rattle.json_tree.specs.declared.place.Step.TheVariants.{Key}
use Rattle.json_tree.specs.Places.{value_of, text_at}
use Rattle.json_tree.specs.Trees.{new_member}
use Rattle.ld_words.specs.declared.keyword_table.LdKeyword.{LdKeyword}
use Rattle.ld_words.specs.declared.keyword_table.LdKeyword.TheVariants as word
use Rattle.ld_termdef.specs.Words.{keyword_text, keyword_of, looks_like_keyword, is_empty}
use Rattle.ld_termdef.specs.Contexts.{Context}

-- An entry of a context object. `at` is the place of the object in which it stands, so that an
-- entry that `@import` added has its own.
pub record ContextEntry : Type 0 where
  pub key : List ℕ
  pub value : Tree
  pub at : List Step

-- What is given where the terms of a context object are defined: the context before, with the base,
-- the vocabulary and the defaults that the object gives; the object's entries, in which of two with
-- one name the first counts; its `@protected`; and whether protected terms may be changed.
-- JSON-LD 1.1 API, 4.2, inputs: protected and override protected
pub record Given : Type 0 where
  pub before : Context
  pub entries : List ContextEntry
  pub protect : Bool
  pub change : Bool

-- the members of an object as entries
abbrev pub entry_at : List Step → Member Tree → ContextEntry
entry_at at m = record { key = m.key; value = m.value; at = at }

abbrev pub entries_at : List Step → List (Member Tree) → List ContextEntry
entries_at at members = map (entry_at at) members

-- the entry of that name
abbrev pub find_entry : List ℕ → List ContextEntry → Option ContextEntry
find_entry key entries = find (λ e. bytes_eq e.key key) entries

-- where an entry stands, and where a member of its value does
abbrev pub entry_place : ContextEntry → List Step
entry_place e = e.at ++ Key e.key ∷ []

abbrev pub place_inside : ContextEntry → List ℕ → List Step
place_inside e key = entry_place e ++ Key key ∷ []

-- ---- the forms of a definition

-- A definition as an object. `short` says that it was written without one, as null or as a text,
-- and `simple` that it was written as a text. -- JSON-LD 1.1 API, 4.2.2, steps 7 to 9, simple term
pub record ExpandedDefinition : Type 0 where
  pub simple : Bool
  pub short : Bool
  pub members : List (Member Tree)

abbrev pub expanded_definition : Bool → Bool → List (Member Tree) → ExpandedDefinition
expanded_definition simple short members = record {
  simple = simple;
  short = short;
  members = members;
}

-- an object with `@id` alone
abbrev pub id_alone : Tree → List (Member Tree)
id_alone id = new_member (codes "@id") id ∷ []

-- null and a text stand for an object with `@id` alone; a value of another kind is no definition
abbrev pub expanded_of : Tree-F Tree → Option ExpandedDefinition
expanded_of Tree-F.Null = Some (expanded_definition false true (id_alone v.Null))
expanded_of (Tree-F.Text text) = Some (expanded_definition true true (id_alone (v.Text text)))
expanded_of (Tree-F.Object members) = Some (expanded_definition false false members)
expanded_of Tree-F.Version = None
expanded_of (Tree-F.Bool b) = None
expanded_of (Tree-F.Whole z) = None
expanded_of (Tree-F.List items) = None

-- what stands under a name in a definition, and whether anything does
abbrev pub member_of : List ℕ → ExpandedDefinition → Option Tree
member_of key d = value_of key d.members

abbrev pub has_member : List ℕ → ExpandedDefinition → Bool
has_member key d = is_some (member_of key d)

-- ---- which entries define a term

-- the entries of a context object that define no term. -- JSON-LD 1.1 API, 4.1.2, step 5.13
abbrev pub context_words : List LdKeyword
context_words =
    word.Base ∷ word.Direction ∷ word.Import ∷ word.Language ∷ word.Propagate ∷ word.Protected
    ∷ word.Version ∷ word.Vocab ∷ []

abbrev pub is_context_word : List ℕ → Bool
is_context_word key = list_any (λ k. bytes_eq (keyword_text k) key) context_words

-- whether there is a text, and it looks like a keyword
abbrev pub is_like_keyword : Option (List ℕ) → Bool
is_like_keyword None = false
is_like_keyword (Some text) = looks_like_keyword text

-- whether the IRI of a definition, or its reverse property, looks like a keyword.
-- JSON-LD 1.1 API, 4.2.2, steps 13.3 and 14.2.2
abbrev pub names_like_keyword : Option ExpandedDefinition → Bool
names_like_keyword None = false
names_like_keyword (Some d) =
    is_like_keyword (text_at (codes "@id") d.members)
    || is_like_keyword (text_at (codes "@reverse") d.members)

-- Whether an entry is ignored, as if it were not there: its term looks like a keyword, or its term
-- is neither empty nor a keyword and it maps to what looks like one. Nothing else of it is looked
-- at. -- JSON-LD 1.1 API, 4.2.2, steps 5, 13.3 and 14.2.2
abbrev pub is_ignored : ContextEntry → Bool
is_ignored e =
    looks_like_keyword e.key
    || (not (is_empty e.key) && is_none (keyword_of e.key)
    && names_like_keyword (expanded_of (out-Tree e.value)))

-- the entry, where it defines a term
abbrev pub counting_entry : ContextEntry → Option ContextEntry
counting_entry e = if is_context_word e.key || is_ignored e then None else Some e

-- The entry that defines a term, where there is one.
abbrev pub entry : Given → List ℕ → Option ContextEntry
entry g t = option_and_then counting_entry (find_entry t g.entries)
