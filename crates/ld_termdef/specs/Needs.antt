-- Which terms the definition of a term needs: those that its entry looks up and that have an entry
-- themselves. It speaks of entries and of the context before alone, so it means something where the
-- entries have no result. JSON-LD 1.1 API, 4.2.2, step 15.1, and 5.2.2, steps 3 and 6.3
use Rattle.std.specs.Prelude.{◌≡◌, ℕ, ◌<◌, List, [], ◌∷◌, ◌++◌, Bool, true, ◌||◌, Option, Some, None, Contains, is_some, codes, if◌then◌else◌}
use Rattle.std.specs.Str.{bytes_eq}
use Rattle.json_tree.specs.declared.tree.Tree.{Tree, out-Tree}
use Rattle.json_tree.specs.Places.{text_of}
use Rattle.iri_ref.specs.Components.{around_colon}
use Rattle.ld_words.specs.declared.keyword_table.LdKeyword.{LdKeyword}
use Rattle.ld_termdef.specs.Words.{keyword_of, looks_like_keyword, begins_with_slashes}
use Rattle.ld_termdef.specs.Entries.{ContextEntry, Given, ExpandedDefinition, expanded_of, member_of, entry}
use Rattle.ld_termdef.specs.Mappings.{has_own_iri}

-- whether a text is a term of every result: it has an entry, or it was a term before
abbrev pub is_term : Given → List ℕ → Bool
is_term g t = is_some (entry g t) || is_some (g.before.terms t)

-- the prefix that is looked up where a text is read by its parts around a colon
abbrev pub prefix_read : Option (List ℕ × List ℕ) → List (List ℕ)
prefix_read None = []
prefix_read (Some parts) =
    if bytes_eq parts.0 (codes "_") || begins_with_slashes parts.1 then [] else parts.0 ∷ []

-- the prefix that is looked up where a term without `@id` has one
abbrev pub prefix_of_term : Option (List ℕ × List ℕ) → List (List ℕ)
prefix_of_term None = []
prefix_of_term (Some parts) = if bytes_eq parts.0 (codes "_") then [] else parts.0 ∷ []

-- What is looked up where a text is read, in mode Vocab: the text, and its prefix only where the
-- text is no term.
abbrev pub text_looks : Given → List ℕ → List (List ℕ)
text_looks g text =
    if is_some (keyword_of text) || looks_like_keyword text then []
    else text ∷ (if is_term g text then [] else prefix_read (around_colon text))

abbrev pub looks_of : Given → Option (List ℕ) → List (List ℕ)
looks_of g None = []
looks_of g (Some text) = text_looks g text

-- What is looked up for a term without `@id`.
abbrev pub term_looks : List ℕ → Option LdKeyword → List (List ℕ)
term_looks t (Some k) = []
term_looks t None = prefix_of_term (around_colon t)

-- What is looked up to see how a term reads by itself.
abbrev pub itself_looks : List ℕ → List (List ℕ)
itself_looks t = if has_own_iri t then prefix_read (around_colon t) else []

-- What is looked up for `@id`.
abbrev pub id_looks : Given → List ℕ → Option (List ℕ) → List (List ℕ)
id_looks g t None = []
id_looks g t (Some text) =
    if bytes_eq text t then term_looks t (keyword_of t) else text_looks g text ++ itself_looks t

-- What is looked up to say to what the term maps, from its `@reverse` and its `@id`.
abbrev pub mapping_looks : Given → List ℕ → Option Tree → Option Tree → List (List ℕ)
mapping_looks g t (Some reverse) id = looks_of g (text_of reverse)
mapping_looks g t None (Some id) = id_looks g t (text_of id)
mapping_looks g t None None = term_looks t (keyword_of t)

-- the text of a member
abbrev pub member_text : Option Tree → Option (List ℕ)
member_text None = None
member_text (Some t) = text_of t

-- what is looked up for a definition
abbrev pub definition_looks : Given → List ℕ → Option ExpandedDefinition → List (List ℕ)
definition_looks g t None = []
definition_looks g t (Some d) =
    mapping_looks g t (member_of (codes "@reverse") d) (member_of (codes "@id") d)
    ++ looks_of g (member_text (member_of (codes "@type") d))
    ++ looks_of g (member_text (member_of (codes "@index") d))

-- The texts that the entry of a term looks up as terms: a list that stands for a set.
abbrev pub entry_looks : Given → Option ContextEntry → List (List ℕ)
entry_looks g None = []
entry_looks g (Some e) = definition_looks g e.key (expanded_of (out-Tree e.value))

abbrev pub looks : Given → List ℕ → List (List ℕ)
looks g t = entry_looks g (entry g t)

-- The entry of the term t looks up the term u, which has an entry.
pub record Needs (g : Given) (t u : List ℕ) : Type 0 where
  pub looked : Contains (looks g t) u
  pub entered : is_some (entry g u) ≡ true

-- t needs u in one or more steps.
pub data Reaches (g : Given) : List ℕ → List ℕ → Type 0 where
  once : (t u : List ℕ) → Needs g t u → Reaches g t u
  more : (t u w : List ℕ) → Needs g t u → Reaches g u w → Reaches g t w

-- A rank that falls along it: so no term needs itself.
pub record Ranked (g : Given) : Type 0 where
  pub rank : List ℕ → ℕ
  pub falls : (t u : List ℕ) → Needs g t u → rank u < rank t
