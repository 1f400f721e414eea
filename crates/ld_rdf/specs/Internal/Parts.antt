-- The parts of a flat request as its members give them, for the functions that take it apart.
use Rattle.std.specs.Prelude.{ℕ, List, [], ◌∷◌, Bool, true, false, ◌&&◌, ◌||◌, not, Option, Some, None, option_map, option_and_then, if◌then◌else◌, codes}
use Rattle.std.specs.List.{list_all}
use Rattle.std.specs.Option.{option_map_or}
use Rattle.std.specs.Str.{bytes_eq}
use Rattle.json_tree.specs.declared.tree.Tree.{Tree}
use Rattle.json_tree.specs.declared.tree.Member.{Member}
use Rattle.json_tree.specs.Places.{text_of, members_of, value_of}
use Rattle.nquads.specs.Terms.{Statement}
use Rattle.ld_rdf.specs.Plain.{is_plain_iri, is_plain_term, has_noncharacter}
use Rattle.ld_rdf.specs.Flat.{at_context, at_id, property_statement}

-- the option where the test holds
abbrev pub only_if : {A : Type 0} → Bool → Option A → Option A
only_if true o = o
only_if false o = None

-- the text of the member of that name
abbrev pub member_text : List ℕ → List (Member Tree) → Option (List ℕ)
member_text key members = option_and_then text_of (value_of key members)

-- the member of an object that has no other
abbrev pub only_in : List (Member Tree) → Option (Member Tree)
only_in [] = None
only_in (m ∷ []) = Some m
only_in (m ∷ n ∷ ms) = None

abbrev pub only_of : Tree → Option (Member Tree)
only_of t = option_and_then only_in (members_of t)

-- `contexts` and `document`
abbrev pub two_in : List (Member Tree) → Option (Tree × Tree)
two_in [] = None
two_in (m ∷ []) = None
two_in (c ∷ d ∷ []) =
    only_if (bytes_eq c.key (codes "contexts") && bytes_eq d.key (codes "document"))
    (Some (c.value, d.value))
two_in (c ∷ d ∷ m ∷ ms) = None

-- the value of the lone member `@context`
abbrev pub context_value : Tree → Option Tree
context_value t =
    option_and_then (λ m. only_if (bytes_eq m.key at_context) (Some m.value)) (only_of t)

-- a name with terms: the supplied context
abbrev pub SuppliedContext : Type 0
SuppliedContext = List ℕ × List (Member Tree)

abbrev pub supplied_context : Tree → Option SuppliedContext
supplied_context t =
    option_and_then (λ m. option_map (λ terms. (m.key, terms))
    (option_and_then members_of (context_value m.value))) (only_of t)

-- whether a member is a plain term with a plain IRI
abbrev pub is_definition : Member Tree → Bool
is_definition m = is_plain_term m.key && option_map_or is_plain_iri (text_of m.value) false

-- a term's IRI and the text, where the member is a term of the context with a text that can be
-- carried
abbrev pub property_of : List (Member Tree) → Member Tree → Option (List ℕ × List ℕ)
property_of terms m =
    option_and_then (λ mapping. option_and_then
    (λ text. only_if (not (has_noncharacter text)) (Some (mapping, text))) (text_of m.value))
    (member_text m.key terms)

-- `@id` and `@context`, which are no properties
abbrev pub is_id_or_context : List ℕ → Bool
is_id_or_context key = bytes_eq key at_id || bytes_eq key at_context

-- whether a document with these entries can take the context of that name, and its terms are
-- definitions
abbrev pub agrees : List ℕ → List ℕ → List ℕ → List (Member Tree) → Bool
agrees name chosen id terms =
    is_plain_iri id && bytes_eq name chosen && list_all is_definition terms

-- ---- the parts of a document of which one member is left out

-- whether a member of that name gives no statement: the one that is left out, `@id` and `@context`
abbrev pub is_left_out : List ℕ → List ℕ → Bool
is_left_out besides key = bytes_eq key besides || is_id_or_context key

-- the text of the member of that name, where it is not the one that is left out
abbrev pub text_beside : List ℕ → List ℕ → List (Member Tree) → Option (List ℕ)
text_beside besides key members = if bytes_eq key besides then None else member_text key members

-- the statements of the members that are not left out, in their order
abbrev pub statements_beside : List ℕ → List (Member Tree) → List ℕ → List (Member Tree)
    → Option (List Statement)
statements_beside besides terms id [] = Some []
statements_beside besides terms id (m ∷ ms) =
    if is_left_out besides m.key then statements_beside besides terms id ms
    else option_and_then (λ p. option_map (λ more. property_statement id p.0 p.1 ∷ more)
    (statements_beside besides terms id ms)) (property_of terms m)

-- the statements of members under the supplied context, where they take the context of the chosen
-- name
abbrev pub statements_under : List ℕ → List ℕ → SuppliedContext → List (Member Tree)
    → Option (List Statement)
statements_under besides chosen context members =
    option_and_then (λ id. only_if (agrees context.0 chosen id context.1)
    (statements_beside besides context.1 id members)) (text_beside besides at_id members)

-- the statements of a tree without a member, which takes the context of the chosen name
abbrev pub chosen_statements : List ℕ → Tree → List ℕ → Tree → Option (List Statement)
chosen_statements besides contexts chosen t =
    option_and_then (λ context. option_and_then (statements_under besides chosen context)
    (members_of t)) (supplied_context contexts)

-- the statements of a document without a member, which takes the context that it names itself
abbrev pub reduced_statements : List ℕ → Tree → Tree → Option (List Statement)
reduced_statements besides contexts document =
    option_and_then (λ members. option_and_then
    (λ chosen. chosen_statements besides contexts chosen document)
    (text_beside besides at_context members))
    (members_of document)

-- The statements of a whole document, which takes the context that it names itself. `@context`
-- gives no statement, so it may be the member that is left out once it was read.
abbrev pub whole_statements : Tree → Tree → Option (List Statement)
whole_statements contexts document =
    option_and_then (λ members. option_and_then
    (λ chosen. chosen_statements at_context contexts chosen document)
    (member_text at_context members))
    (members_of document)

-- the statements of a request, by its two members
abbrev pub request_statements : Tree → Option (List Statement)
request_statements r =
    option_and_then (λ two. whole_statements two.0 two.1) (option_and_then two_in (members_of r))
