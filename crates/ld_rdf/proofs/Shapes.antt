-- A flat request by its members: what its places show, and what its parts are.
use Rattle.std.proofs.Common.{◌≡◌, ℕ, true, false, ◌&&◌, List, [], ◌∷◌, map, Some, option_map, option_and_then, refl, ap, ◌∙◌, codes}
use Rattle.std.specs.Str.{bytes_eq}
use Rattle.json_tree.specs.declared.tree.Tree.{Tree, out-Tree}
use Rattle.json_tree.specs.declared.tree.Member.{Member}
use Rattle.json_tree.specs.declared.place.Step.{Step}
use Rattle.json_tree.specs.declared.place.Step.TheVariants.{Key}
use Rattle.json_tree.specs.Trees.{is_lawful, AreLawful}
use Rattle.json_tree.specs.Places.{child_of, look, names_in, names_at, members_of, value_of}
use Rattle.json_tree.proofs.Rising.{left_of, right_of}
use Rattle.json_tree.proofs.TreeLemmas.{child_of-members, names_at-members, members_of-Some, lawful_members, look_nothing}
use Rattle.nquads.specs.Terms.{Statement}
use Rattle.ld_rdf.specs.Flat.{at_context, context_place, term_place, document_place}
use Rattle.ld_rdf.specs.Internal.Parts.{only_if, only_in, only_of, two_in, context_value, supplied_context}
use Rattle.ld_rdf.proofs.WholeRequests.{document_statements, flat_statements}
use Rattle.ld_rdf.proofs.OptionsAndLists.{provided-Some}
use Rattle.base_types.proofs.Lists.{same_some}
use Rattle.base_types.proofs.Orders.{bytes_eq-true, bytes_eq-same, bytes_eq-same}
use Rattle.base_types.proofs.Options.{and_then-Some, option_map-Some}

-- ---- one step down

step_down : (t u : Tree) (key : List ℕ) (place : List Step) → child_of t (Key key) ≡ Some u → look (Key key ∷ place) t ≡ look place u
step_down t u key place is = ap (option_and_then (look place)) is

-- the names at a place below a member are those of its value
pub names_down : (t u : Tree) (key : List ℕ) (place : List Step) → child_of t (Key key) ≡ Some u → names_at (Key key ∷ place) t ≡ names_at place u
names_down t u key place is = ap (option_and_then (λ w. names_in (out-Tree w))) (step_down t u key place is)

-- the last step
last_down : (t : Tree) (members : List (Member Tree)) (key : List ℕ) → members_of t ≡ Some members → look (Key key ∷ []) t ≡ value_of key members
last_down t members key is = look_nothing (child_of t (Key key)) ∙ child_of-members t key ∙ ap (option_and_then (value_of key)) is

-- below a key stands the value of that member
pub child_is : (t : Tree) (members : List (Member Tree)) (key : List ℕ) → members_of t ≡ Some members → child_of t (Key key) ≡ value_of key members
child_is t members key is = child_of-members t key ∙ ap (option_and_then (value_of key)) is

-- the members' values of a lawful tree are lawful
pub members_are_lawful : (t : Tree) (members : List (Member Tree)) → is_lawful t ≡ true → members_of t ≡ Some members → AreLawful members
members_are_lawful t members lawful is = lawful_members t members members lawful (members_of-Some t members is) refl

first_lawful : (m : Member Tree) (ms : List (Member Tree)) → AreLawful (m ∷ ms) → is_lawful m.value ≡ true
first_lawful m ms all = left_of (is_lawful m.value) _ all.values

second_lawful : (m n : Member Tree) (ms : List (Member Tree)) → AreLawful (m ∷ n ∷ ms) → is_lawful n.value ≡ true
second_lawful m n ms all = left_of (is_lawful n.value) _ (right_of (is_lawful m.value) _ all.values)

-- ---- the shape

pub record Shape (r : Tree) : Type 0 where
  pub contexts : Member Tree
  pub document : Member Tree
  pub supplied : Member Tree
  pub wrapped : Member Tree
  pub terms : List (Member Tree)
  pub members : List (Member Tree)
  pub is_request : members_of r ≡ Some (contexts ∷ document ∷ [])
  pub contexts_key : contexts.key ≡ codes "contexts"
  pub document_key : document.key ≡ codes "document"
  pub is_contexts : members_of contexts.value ≡ Some (supplied ∷ [])
  pub is_supplied : members_of supplied.value ≡ Some (wrapped ∷ [])
  pub wrapped_key : wrapped.key ≡ at_context
  pub is_wrapped : members_of wrapped.value ≡ Some terms
  pub is_document : members_of document.value ≡ Some members

module _ (r : Tree) (s : Shape r) where
  child-contexts : child_of r (Key (codes "contexts")) ≡ Some s.contexts.value
  child-contexts = child_is r _ _ s.is_request ∙ rw (bytes_eq-same s.contexts.key (codes "contexts") s.contexts_key)

  child-document : child_of r (Key (codes "document")) ≡ Some s.document.value
  child-document =
      let other : bytes_eq s.contexts.key (codes "document") ≡ false = ap (λ (k : List ℕ). bytes_eq k (codes "document")) s.contexts_key in
      child_is r _ _ s.is_request ∙ rw (other, bytes_eq-same s.document.key (codes "document") s.document_key)

  child-supplied : child_of s.contexts.value (Key s.supplied.key) ≡ Some s.supplied.value
  child-supplied = child_is s.contexts.value _ _ s.is_contexts ∙ rw (bytes_eq-same s.supplied.key s.supplied.key refl)

  child-wrapped : child_of s.supplied.value (Key at_context) ≡ Some s.wrapped.value
  child-wrapped = child_is s.supplied.value _ _ s.is_supplied ∙ rw (bytes_eq-same s.wrapped.key at_context s.wrapped_key)

  -- what stands at a term of the context and at a member of the document
  pub at_term : (term : List ℕ) → look (term_place s.supplied.key term) r ≡ value_of term s.terms
  at_term term =
      step_down r s.contexts.value (codes "contexts") (Key s.supplied.key ∷ Key at_context ∷ Key term ∷ []) child-contexts
      ∙ step_down s.contexts.value s.supplied.value s.supplied.key (Key at_context ∷ Key term ∷ []) child-supplied
      ∙ step_down s.supplied.value s.wrapped.value at_context (Key term ∷ []) child-wrapped
      ∙ last_down s.wrapped.value s.terms term s.is_wrapped

  pub at_member : (key : List ℕ) → look (document_place key) r ≡ value_of key s.members
  at_member key = step_down r s.document.value (codes "document") (Key key ∷ []) child-document ∙ last_down s.document.value s.members key s.is_document

  pub names-request : names_at [] r ≡ Some (codes "contexts" ∷ codes "document" ∷ [])
  names-request = names_at-members r ∙ ap (option_map (λ members. map (λ m. m.key) members)) s.is_request ∙ (λ i. Some (s.contexts_key i ∷ s.document_key i ∷ []))

  pub names-contexts : names_at (Key (codes "contexts") ∷ []) r ≡ Some (s.supplied.key ∷ [])
  names-contexts = names_down r s.contexts.value (codes "contexts") [] child-contexts ∙ names_at-members s.contexts.value ∙ ap (option_map (λ members. map (λ m. m.key) members)) s.is_contexts

  pub names-supplied : names_at (Key (codes "contexts") ∷ Key s.supplied.key ∷ []) r ≡ Some (at_context ∷ [])
  names-supplied = names_down r s.contexts.value (codes "contexts") (Key s.supplied.key ∷ []) child-contexts ∙ names_down s.contexts.value s.supplied.value s.supplied.key [] child-supplied ∙ names_at-members s.supplied.value ∙ ap (option_map (λ members. map (λ m. m.key) members)) s.is_supplied ∙ (λ i. Some (s.wrapped_key i ∷ []))

  pub names-terms : names_at (context_place s.supplied.key) r ≡ Some (map (λ m. m.key) s.terms)
  names-terms =
      names_down r s.contexts.value (codes "contexts") (Key s.supplied.key ∷ Key at_context ∷ []) child-contexts
      ∙ names_down s.contexts.value s.supplied.value s.supplied.key (Key at_context ∷ []) child-supplied
      ∙ names_down s.supplied.value s.wrapped.value at_context [] child-wrapped
      ∙ names_at-members s.wrapped.value ∙ ap (option_map (λ members. map (λ m. m.key) members)) s.is_wrapped

  pub names-document : names_at (Key (codes "document") ∷ []) r ≡ Some (map (λ m. m.key) s.members)
  names-document = names_down r s.document.value (codes "document") [] child-document ∙ names_at-members s.document.value ∙ ap (option_map (λ members. map (λ m. m.key) members)) s.is_document

  -- the terms and the document's members are lawful where the request is
  pub terms_lawful : is_lawful r ≡ true → AreLawful s.terms
  terms_lawful lawful =
      let contexts = first_lawful _ _ (members_are_lawful r _ lawful s.is_request) in
      let supplied = first_lawful _ _ (members_are_lawful s.contexts.value _ contexts s.is_contexts) in
      let wrapped = first_lawful _ _ (members_are_lawful s.supplied.value _ supplied s.is_supplied) in
      members_are_lawful s.wrapped.value _ wrapped s.is_wrapped

  pub document_lawful : is_lawful r ≡ true → AreLawful s.members
  document_lawful lawful =
      let document = second_lawful _ _ _ (members_are_lawful r _ lawful s.is_request) in
      members_are_lawful s.document.value _ document s.is_document

  -- the parts by which the program goes
  pub parts : flat_statements r ≡ document_statements (s.supplied.key, s.terms) s.members
  parts =
      let two : two_in (s.contexts ∷ s.document ∷ []) ≡ Some (s.contexts.value, s.document.value) = rw (bytes_eq-same s.contexts.key (codes "contexts") s.contexts_key, bytes_eq-same s.document.key (codes "document") s.document_key) in
      let inner : context_value s.supplied.value ≡ Some s.wrapped.value = rw (s.is_supplied, bytes_eq-same s.wrapped.key at_context s.wrapped_key) in
      let context : supplied_context s.contexts.value ≡ Some (s.supplied.key, s.terms) = rw (s.is_contexts, inner, s.is_wrapped) in
      rw (s.is_request, two, context, s.is_document)

-- ---- where a request has the shape

one_only : (ms : List (Member Tree)) (m : Member Tree) → only_in ms ≡ Some m → ms ≡ m ∷ []
one_only [] m h = absurd (cc)
one_only (a ∷ []) m h = cc
one_only (a ∷ (b ∷ ms)) m h = absurd (cc)

only_of-Some : (t : Tree) (m : Member Tree) → only_of t ≡ Some m → members_of t ≡ Some (m ∷ [])
only_of-Some t m h = let found = and_then-Some only_in (members_of t) m h in found.1 ∙ ap Some (one_only found.0 m found.2)

-- the two members of a request
record Two (ms : List (Member Tree)) (values : Tree × Tree) : Type 0 where
  pub contexts : Member Tree
  pub document : Member Tree
  pub is : ms ≡ contexts ∷ document ∷ []
  pub contexts_key : contexts.key ≡ codes "contexts"
  pub document_key : document.key ≡ codes "document"
  pub contexts_value : contexts.value ≡ values.0
  pub document_value : document.value ≡ values.1

two_members : (ms : List (Member Tree)) (values : Tree × Tree) → two_in ms ≡ Some values → Two ms values
two_members [] values h = absurd (cc)
two_members (a ∷ []) values h = absurd (cc)
two_members (c ∷ (d ∷ [])) values h =
    let given = provided-Some (bytes_eq c.key (codes "contexts") && bytes_eq d.key (codes "document")) (Some (c.value, d.value)) values h in
    let pair : (c.value, d.value) ≡ values = same_some (Some (c.value, d.value)) (c.value, d.value) values refl given.1 in
    record {
      contexts = c;
      document = d;
      is = refl;
      contexts_key = bytes_eq-true c.key _ (left_of (bytes_eq c.key (codes "contexts")) _ given.0);
      document_key = bytes_eq-true d.key _ (right_of (bytes_eq c.key (codes "contexts")) _ given.0);
      contexts_value = ap (λ (p : Tree × Tree). p.0) pair;
      document_value = ap (λ (p : Tree × Tree). p.1) pair;
    }
two_members (c ∷ (d ∷ (e ∷ ms))) values h = absurd (cc)

-- a request that has statements has the shape
pub shape_from_statements : (r : Tree) (ss : List Statement) → flat_statements r ≡ Some ss → Shape r
shape_from_statements r ss h =
    let found = and_then-Some (λ (two : Tree × Tree). option_and_then (λ context. option_and_then (document_statements context) (members_of two.1)) (supplied_context two.0)) (option_and_then two_in (members_of r)) ss h in
    let request = and_then-Some two_in (members_of r) found.0 found.1 in
    let two = two_members request.0 found.0 request.2 in
    let context = and_then-Some (λ context. option_and_then (document_statements context) (members_of found.0.1)) (supplied_context found.0.0) ss found.2 in
    let document = and_then-Some (document_statements context.0) (members_of found.0.1) ss context.2 in
    let supplied = and_then-Some (λ m. option_map (λ terms. (m.key, terms)) (option_and_then members_of (context_value m.value))) (only_of found.0.0) context.0 context.1 in
    let terms = option_map-Some (λ terms. (supplied.0.key, terms)) (option_and_then members_of (context_value supplied.0.value)) context.0 supplied.2 in
    let inner = and_then-Some members_of (context_value supplied.0.value) terms.0 terms.1 in
    let lone = and_then-Some (λ m. only_if (bytes_eq m.key at_context) (Some m.value)) (only_of supplied.0.value) inner.0 inner.1 in
    let named = provided-Some (bytes_eq lone.0.key at_context) (Some lone.0.value) inner.0 lone.2 in
    let value : lone.0.value ≡ inner.0 = same_some (Some lone.0.value) lone.0.value inner.0 refl named.1 in
    record {
      contexts = two.contexts;
      document = two.document;
      supplied = supplied.0;
      wrapped = lone.0;
      terms = terms.0;
      members = document.0;
      is_request = request.1 ∙ ap Some two.is;
      contexts_key = two.contexts_key;
      document_key = two.document_key;
      is_contexts = ap members_of two.contexts_value ∙ only_of-Some found.0.0 supplied.0 supplied.1;
      is_supplied = only_of-Some supplied.0.value lone.0 lone.1;
      wrapped_key = bytes_eq-true lone.0.key at_context named.0;
      is_wrapped = ap members_of value ∙ inner.2;
      is_document = ap members_of two.document_value ∙ document.1;
    }
