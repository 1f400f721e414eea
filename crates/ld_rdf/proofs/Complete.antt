-- A flat request has the shape, and its parts give statements.
use Rattle.std.proofs.Common.{◌≡◌, ℕ, true, false, List, [], ◌∷◌, map, Contains, Some, None, inl, inr, refl, sym, ap, ◌∙◌, subst, codes}
use Rattle.std.specs.List.{list_all}
use Rattle.std.specs.Str.{bytes_eq}
use Rattle.std.proofs.lemmas.Bool.{cases_Bool}
use Rattle.base_types.proofs.Lists.{Contains-map, same_some}
use Rattle.json_tree.specs.declared.tree.Tree.{Tree}
use Rattle.json_tree.specs.declared.tree.Tree.TheVariants as v
use Rattle.json_tree.specs.declared.tree.Member.{Member}
use Rattle.json_tree.specs.declared.place.Step.TheVariants.{Key}
use Rattle.json_tree.specs.Trees.{is_lawful}
use Rattle.json_tree.specs.Places.{names_at, text_of, members_of, value_of}
use Rattle.json_tree.proofs.TreeLemmas.{names_at-members, text_of-Text}
use Rattle.nquads.specs.Terms.{Statement}
use Rattle.ld_rdf.specs.Plain.{has_noncharacter}
use Rattle.ld_rdf.specs.Flat.{at_context, at_id, HasText, term_place, IsFlat}
use Rattle.ld_rdf.specs.Internal.Parts.{member_text, is_definition, property_of, is_id_or_context}
use Rattle.ld_rdf.proofs.WholeRequests.{document_statements, flat_statements}
use Rattle.ld_rdf.proofs.OptionsAndLists.{list_all-from}
use Rattle.ld_rdf.proofs.Shapes.{Shape, child_is, names_down, at_term, at_member, terms_lawful, document_lawful, parts}
use Rattle.ld_rdf.proofs.Meaning.{text_at-from, entry_false, property_from, statements_exist, value_at_member}
use Rattle.base_types.proofs.Orders.{bytes_eq-same}
use Rattle.base_types.proofs.Options.{option_map-Some}

abbrev keys : List (Member Tree) → List (List ℕ)
keys ms = map (λ m. m.key) ms

apart : (ss : List Statement) → None ≡ Some ss → ⊥
apart ss h = cc

-- the members of an object whose names are known
record One (t : Tree) (name : List ℕ) : Type 0 where
  pub member : Member Tree
  pub is : members_of t ≡ Some (member ∷ [])
  pub key : member.key ≡ name

one_in : (ms : List (Member Tree)) (name : List ℕ) → keys ms ≡ name ∷ [] → (m : Member Tree) × (ms ≡ m ∷ []) × (m.key ≡ name)
one_in [] name h = absurd (cc)
one_in (m ∷ []) name h = (m, refl, cc)
one_in (m ∷ (n ∷ ms)) name h = absurd (cc)

one_of : (t : Tree) (name : List ℕ) → names_at [] t ≡ Some (name ∷ []) → One t name
one_of t name h =
    let found = option_map-Some keys (members_of t) (name ∷ []) (sym (names_at-members t) ∙ h) in
    let one = one_in found.0 name found.2 in
    record { member = one.0; is = found.1 ∙ ap Some one.1; key = one.2 }

two_in : (ms : List (Member Tree)) (a b : List ℕ) → keys ms ≡ a ∷ b ∷ [] → (m : Member Tree) × (n : Member Tree) × (ms ≡ m ∷ n ∷ []) × (m.key ≡ a) × (n.key ≡ b)
two_in [] a b h = absurd (cc)
two_in (m ∷ []) a b h = absurd (cc)
two_in (m ∷ (n ∷ [])) a b h = (m, n, refl, cc, cc)
two_in (m ∷ (n ∷ (k ∷ ms))) a b h = absurd (cc)

module _ (r : Tree) (lawful : is_lawful r ≡ true) (f : IsFlat r) where
  -- the shape of a flat request, with its names
  record Named : Type 0 where
    pub shape : Shape r
    pub name : shape.supplied.key ≡ f.name
    pub terms : keys shape.terms ≡ f.terms
    pub names : keys shape.members ≡ f.names

  shape_of : Named
  shape_of =
      let request = option_map-Some keys (members_of r) _ (sym (names_at-members r) ∙ f.request) in
      let two = two_in request.0 (codes "contexts") (codes "document") request.2 in
      let c = two.0 in
      let d = two.1 in
      let is_request : members_of r ≡ Some (c ∷ d ∷ []) = request.1 ∙ ap Some two.2 in
      let other : bytes_eq c.key (codes "document") ≡ false = ap (λ (k : List ℕ). bytes_eq k (codes "document")) two.3 in
      let contexts_at = child_is r (c ∷ d ∷ []) (codes "contexts") is_request ∙ (let e : value_of (codes "contexts") (c ∷ d ∷ []) ≡ Some c.value = rw (bytes_eq-same c.key (codes "contexts") two.3) in e) in
      let document_at = child_is r (c ∷ d ∷ []) (codes "document") is_request ∙ (let e : value_of (codes "document") (c ∷ d ∷ []) ≡ Some d.value = rw (other, bytes_eq-same d.key (codes "document") two.4) in e) in
      let supplied = one_of c.value f.name (sym (names_down r c.value (codes "contexts") [] contexts_at) ∙ f.supplied) in
      let n = supplied.member in
      let supplied_at = child_is c.value (n ∷ []) f.name supplied.is ∙ (let e : value_of f.name (n ∷ []) ≡ Some n.value = rw (bytes_eq-same n.key f.name supplied.key) in e) in
      let wrapped = one_of n.value at_context (sym (names_down c.value n.value f.name [] supplied_at) ∙ sym (names_down r c.value (codes "contexts") (Key f.name ∷ []) contexts_at) ∙ f.wrapped) in
      let x = wrapped.member in
      let wrapped_at = child_is n.value (x ∷ []) at_context wrapped.is ∙ (let e : value_of at_context (x ∷ []) ≡ Some x.value = rw (bytes_eq-same x.key at_context wrapped.key) in e) in
      let terms_named = sym (names_down n.value x.value at_context [] wrapped_at) ∙ sym (names_down c.value n.value f.name (Key at_context ∷ []) supplied_at) ∙ sym (names_down r c.value (codes "contexts") (Key f.name ∷ Key at_context ∷ []) contexts_at) ∙ f.context in
      let terms = option_map-Some keys (members_of x.value) f.terms (sym (names_at-members x.value) ∙ terms_named) in
      let document_named = sym (names_down r d.value (codes "document") [] document_at) ∙ f.document in
      let members = option_map-Some keys (members_of d.value) f.names (sym (names_at-members d.value) ∙ document_named) in
      record {
        shape = record {
          contexts = c;
          document = d;
          supplied = n;
          wrapped = x;
          terms = terms.0;
          members = members.0;
          is_request = is_request;
          contexts_key = two.3;
          document_key = two.4;
          is_contexts = supplied.is;
          is_supplied = wrapped.is;
          wrapped_key = wrapped.key;
          is_wrapped = terms.1;
          is_document = members.1;
        };
        name = supplied.key;
        terms = terms.2;
        names = members.2;
      }

  module _ (w : Named) where
    defined : (m : Member Tree) → Contains w.shape.terms m → is_definition m ≡ true
    defined m c =
        let known : Contains f.terms m.key = subst (λ (l : List (List ℕ)). Contains l m.key) w.terms (Contains-map (λ (k : Member Tree). k.key) w.shape.terms m c) in
        let d = f.definitions m.key known in
        let here : value_of m.key w.shape.terms ≡ Some m.value = value_at_member w.shape.terms m (terms_lawful r w.shape lawful) c in
        let there : value_of m.key w.shape.terms ≡ Some (v.Text d.mapping) = sym (at_term r w.shape m.key) ∙ subst (λ (n : List ℕ). HasText (term_place n m.key) r d.mapping) (sym w.name) d.is in
        let text : text_of m.value ≡ Some d.mapping = ap text_of (same_some (value_of m.key w.shape.terms) _ _ here there) ∙ text_of-Text d.mapping in
        rw (d.plain, text, d.plain_iri)

    property_there : (m : Member Tree) → Contains w.shape.members m → is_id_or_context m.key ≡ false → (p : List ℕ × List ℕ) × (property_of w.shape.terms m ≡ Some p)
    property_there m c e =
        let known : Contains f.names m.key = subst (λ (l : List (List ℕ)). Contains l m.key) w.names (Contains-map (λ (k : Member Tree). k.key) w.shape.members m c) in
        let apart = entry_false m.key e in
        let d = f.definitions m.key (f.keys m.key known apart.0 apart.1) in
        let value = f.values m.key known apart.0 apart.1 in
        let here : value_of m.key w.shape.members ≡ Some m.value = value_at_member w.shape.members m (document_lawful r w.shape lawful) c in
        let there : value_of m.key w.shape.members ≡ Some (v.Text value.text) = sym (at_member r w.shape m.key) ∙ value.is in
        let text : text_of m.value ≡ Some value.text = ap text_of (same_some (value_of m.key w.shape.members) _ _ here there) ∙ text_of-Text value.text in
        let term : value_of m.key w.shape.terms ≡ Some (v.Text d.mapping) = sym (at_term r w.shape m.key) ∙ subst (λ (n : List ℕ). HasText (term_place n m.key) r d.mapping) (sym w.name) d.is in
        let carried : has_noncharacter value.text ≡ false = elim (cases_Bool (has_noncharacter value.text)) [ inl h ↦ absurd (value.carried h) | inr h ↦ h ] in
        ((d.mapping, value.text), property_from w.shape.terms m d.mapping value.text (text_at-from m.key w.shape.terms d.mapping term) text carried)

    there_are : (ss : List Statement) × (flat_statements r ≡ Some ss)
    there_are =
        let made = statements_exist w.shape.terms f.id w.shape.members property_there in
        let id : member_text at_id w.shape.members ≡ Some f.id = text_at-from at_id w.shape.members f.id (sym (at_member r w.shape at_id) ∙ f.identified) in
        let chosen : member_text at_context w.shape.members ≡ Some f.name = text_at-from at_context w.shape.members f.name (sym (at_member r w.shape at_context) ∙ f.chosen) in
        let all : list_all is_definition w.shape.terms ≡ true = list_all-from is_definition w.shape.terms defined in
        let same : bytes_eq w.shape.supplied.key f.name ≡ true = bytes_eq-same w.shape.supplied.key f.name w.name in
        let whole : document_statements (w.shape.supplied.key, w.shape.terms) w.shape.members ≡ Some made.0 = rw (id, chosen, f.plain_id, same, all) made.1 in
        (made.0, parts r w.shape ∙ whole)

  -- a flat request has statements
  pub statements_are_there : flat_statements r ≡ None → ⊥
  statements_are_there none = let found = there_are shape_of in absurd (apart found.0 (sym none ∙ found.1))
