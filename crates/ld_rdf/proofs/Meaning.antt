-- The parts of a flat request against its definition by places, both ways.
use Rattle.std.proofs.Common.{◌≡◌, ◌≢◌, ℕ, true, false, ◌&&◌, ◌||◌, not, List, [], ◌∷◌, map, get_or, inl, inr, Contains, Some, option_map, option_and_then, refl, sym, ap, ◌∙◌, subst}
use Rattle.std.specs.List.{list_all}
use Rattle.std.specs.Str.{bytes_eq}
use Rattle.std.proofs.lemmas.Bool.{cases_Bool, true≢false, or_right, not-true}
use Rattle.std.proofs.lemmas.List.{get_or_default}
use Rattle.base_types.proofs.Lists.{Contains-here, Contains-there, Contains-cons_cases, Contains-nil, Contains-map, Contains-from_map, same_some}
use Rattle.json_tree.specs.declared.tree.Tree.{Tree}
use Rattle.json_tree.specs.declared.tree.Tree.TheVariants as v
use Rattle.json_tree.specs.declared.tree.Member.{Member}
use Rattle.json_tree.specs.Trees.{is_lawful, AreLawful}
use Rattle.json_tree.specs.Places.{look, text_of, value_of}
use Rattle.json_tree.proofs.Rising.{value_of-at, value_of-Some, Stands, left_of, right_of}
use Rattle.json_tree.proofs.TreeLemmas.{text_of-Some, text_of-Text}
use Rattle.nquads.specs.Terms.{Statement}
use Rattle.ld_rdf.specs.Plain.{is_plain_iri, is_plain_term, has_noncharacter}
use Rattle.ld_rdf.specs.Flat.{at_context, at_id, term_place, document_place, HasText, DefinesTerm, IsFlat, Means, property_statement}
use Rattle.ld_rdf.specs.Internal.Parts.{only_if, member_text, is_definition, property_of, is_id_or_context, agrees}
use Rattle.ld_rdf.proofs.WholeRequests.{statements_in, document_statements}
use Rattle.ld_rdf.proofs.OptionsAndLists.{provided-Some, map_or-true, list_all-contains}
use Rattle.ld_rdf.proofs.Shapes.{Shape, at_term, at_member, names-request, names-contexts, names-supplied, names-terms, names-document, terms_lawful, document_lawful}
use Rattle.base_types.proofs.Orders.{bytes_eq-true, bytes_eq-same}
use Rattle.base_types.proofs.Options.{and_then-Some, option_map-Some}

-- ---- texts among members

-- the text of a member is its value
pub text_at-Some : (key : List ℕ) (ms : List (Member Tree)) (text : List ℕ) → member_text key ms ≡ Some text → value_of key ms ≡ Some (v.Text text)
text_at-Some key ms text h =
    let found = and_then-Some text_of (value_of key ms) text h in
    found.1 ∙ ap Some (text_of-Some found.0 text found.2)

-- the member whose value is a text has that text
pub text_at-from : (key : List ℕ) (ms : List (Member Tree)) (text : List ℕ) → value_of key ms ≡ Some (v.Text text) → member_text key ms ≡ Some text
text_at-from key ms text h = ap (option_and_then text_of) h ∙ text_of-Text text

same_content : (s t : List ℕ) → v.Text s ≡ v.Text t → s ≡ t
same_content s t e = same_some (text_of (v.Text s)) s t (text_of-Text s) (ap text_of e ∙ text_of-Text t)

-- a member that the list holds stands at its name
pub value_at_member : (ms : List (Member Tree)) (m : Member Tree) → AreLawful ms → Contains ms m → value_of m.key ms ≡ Some m.value
value_at_member ms m lawful c =
    subst (λ (n : Member Tree). value_of n.key ms ≡ Some n.value) c.2 (value_of-at ms c.0 m lawful.rising c.1)

-- a name with a value is a member's
member_of_value : (ms : List (Member Tree)) (key : List ℕ) (t : Tree) (d : Member Tree) → Stands ms key t → (m : Member Tree) × Contains ms m × (m.key ≡ key) × (m.value ≡ t)
member_of_value ms key t d s = (get_or ms s.place d, (s.place, s.within, get_or_default ms s.place (get_or ms s.place d) d s.within), s.named d, s.valued d)

-- ---- entries and properties

-- what is neither `@id` nor `@context` differs from both
pub entry_false : (key : List ℕ) → is_id_or_context key ≡ false → (key ≢ at_id) × (key ≢ at_context)
entry_false key h = (λ e. true≢false (sym (ap (λ b. b || bytes_eq key at_context) (bytes_eq-same key at_id e)) ∙ h), λ e. true≢false (sym (or_right (bytes_eq key at_id) _ (bytes_eq-same key at_context e)) ∙ h))

entry_from : (key : List ℕ) → key ≢ at_id → key ≢ at_context → is_id_or_context key ≡ false
entry_from key not_id not_context = elim (cases_Bool (bytes_eq key at_id)) [
  | inl e ↦ absurd (not_id (bytes_eq-true key at_id e))
  | inr e ↦ elim (cases_Bool (bytes_eq key at_context)) [
    | inl f ↦ absurd (not_context (bytes_eq-true key at_context f))
    | inr f ↦ rw (e, f)
  ]
]

-- what a property is made of
record Property (terms : List (Member Tree)) (m : Member Tree) (p : List ℕ × List ℕ) : Type 0 where
  pub mapping : member_text m.key terms ≡ Some p.0
  pub text : text_of m.value ≡ Some p.1
  pub carried : has_noncharacter p.1 ≡ false

property_parts : (terms : List (Member Tree)) (m : Member Tree) (p : List ℕ × List ℕ) → property_of terms m ≡ Some p → Property terms m p
property_parts terms m p h =
    let outer = and_then-Some (λ mapping. option_and_then (λ text. only_if (not (has_noncharacter text)) (Some (mapping, text))) (text_of m.value)) (member_text m.key terms) p h in
    let inner = and_then-Some (λ text. only_if (not (has_noncharacter text)) (Some (outer.0, text))) (text_of m.value) p outer.2 in
    let given = provided-Some (not (has_noncharacter inner.0)) (Some (outer.0, inner.0)) p inner.2 in
    let pair : (outer.0, inner.0) ≡ p = same_some (Some (outer.0, inner.0)) (outer.0, inner.0) p refl given.1 in
    record {
      mapping = outer.1 ∙ ap (λ (q : List ℕ × List ℕ). Some q.0) pair;
      text = inner.1 ∙ ap (λ (q : List ℕ × List ℕ). Some q.1) pair;
      carried = ap has_noncharacter (sym (ap (λ (q : List ℕ × List ℕ). q.1) pair)) ∙ not-true (has_noncharacter inner.0) given.0;
    }

-- a term with an IRI and a text that can be carried are a property
pub property_from : (terms : List (Member Tree)) (m : Member Tree) (mapping text : List ℕ) → member_text m.key terms ≡ Some mapping → text_of m.value ≡ Some text → has_noncharacter text ≡ false → property_of terms m ≡ Some (mapping, text)
property_from terms m mapping text p q r = rw (p, q, r)

-- ---- the statements of the members

module _ (terms : List (Member Tree)) (id : List ℕ) where
  -- a turn over a member, by whether it is an entry
  turn_entry : (m : Member Tree) (ms : List (Member Tree)) → is_id_or_context m.key ≡ true → statements_in terms id (m ∷ ms) ≡ statements_in terms id ms
  turn_entry m ms h = rw h

  turn_property : (m : Member Tree) (ms : List (Member Tree)) → is_id_or_context m.key ≡ false → statements_in terms id (m ∷ ms) ≡ option_and_then (λ p. option_map (λ more. property_statement id p.0 p.1 ∷ more) (statements_in terms id ms)) (property_of terms m)
  turn_property m ms h = rw h

  -- each property has its statement
  pub statement_of : (ms : List (Member Tree)) (ss : List Statement) (m : Member Tree) → statements_in terms id ms ≡ Some ss → Contains ms m → is_id_or_context m.key ≡ false → (p : List ℕ × List ℕ) × (property_of terms m ≡ Some p) × Contains ss (property_statement id p.0 p.1)
  statement_of [] ss m h c e = absurd (Contains-nil m c)
  statement_of (n ∷ ms) ss m h c e = elim (cases_Bool (is_id_or_context n.key)) [
    | inl entry ↦ elim (Contains-cons_cases n ms m c) [
      | inl same ↦ absurd (true≢false (sym entry ∙ ap (λ (k : Member Tree). is_id_or_context k.key) same ∙ e))
      | inr later ↦ statement_of ms ss m (sym (turn_entry n ms entry) ∙ h) later e
    ]
    | inr other ↦
        let found = and_then-Some (λ (p : List ℕ × List ℕ). option_map (λ more. property_statement id p.0 p.1 ∷ more) (statements_in terms id ms)) (property_of terms n) ss (sym (turn_property n ms other) ∙ h) in
        let more = option_map-Some (λ more. property_statement id found.0.0 found.0.1 ∷ more) (statements_in terms id ms) ss found.2 in
        elim (Contains-cons_cases n ms m c) [
          | inl same ↦ (found.0, ap (property_of terms) (sym same) ∙ found.1, subst (λ (l : List Statement). Contains l (property_statement id found.0.0 found.0.1)) more.2 (Contains-here _ more.0))
          | inr later ↦
              let s = statement_of ms more.0 m more.1 later e in
              (s.0, s.1, subst (λ (l : List Statement). Contains l (property_statement id s.0.0 s.0.1)) more.2 (Contains-there _ more.0 _ s.2))
        ]
  ]

  -- and each statement comes from a property
  pub origin_of : (ms : List (Member Tree)) (ss : List Statement) (s : Statement) → statements_in terms id ms ≡ Some ss → Contains ss s → (m : Member Tree) × (p : List ℕ × List ℕ) × Contains ms m × (is_id_or_context m.key ≡ false) × (property_of terms m ≡ Some p) × (s ≡ property_statement id p.0 p.1)
  origin_of [] ss s h c = absurd (Contains-nil s (subst (λ (l : List Statement). Contains l s) (same_some (Some []) ss [] h refl) c))
  origin_of (n ∷ ms) ss s h c = elim (cases_Bool (is_id_or_context n.key)) [
    | inl entry ↦
        let o = origin_of ms ss s (sym (turn_entry n ms entry) ∙ h) c in
        (o.0, o.1, Contains-there n ms o.0 o.2, o.3, o.4, o.5)
    | inr other ↦
        let found = and_then-Some (λ (p : List ℕ × List ℕ). option_map (λ more. property_statement id p.0 p.1 ∷ more) (statements_in terms id ms)) (property_of terms n) ss (sym (turn_property n ms other) ∙ h) in
        let more = option_map-Some (λ more. property_statement id found.0.0 found.0.1 ∷ more) (statements_in terms id ms) ss found.2 in
        elim (Contains-cons_cases (property_statement id found.0.0 found.0.1) more.0 s (subst (λ (l : List Statement). Contains l s) (sym more.2) c)) [
          | inl same ↦ (n, found.0, Contains-here n ms, other, found.1, sym same)
          | inr later ↦
              let o = origin_of ms more.0 s more.1 later in
              (o.0, o.1, Contains-there n ms o.0 o.2, o.3, o.4, o.5)
        ]
  ]

  -- the members have statements where each property is one
  pub statements_exist : (ms : List (Member Tree)) → ((m : Member Tree) → Contains ms m → is_id_or_context m.key ≡ false → (p : List ℕ × List ℕ) × (property_of terms m ≡ Some p)) → (ss : List Statement) × (statements_in terms id ms ≡ Some ss)
  statements_exist [] h = ([], refl)
  statements_exist (n ∷ ms) h =
      let later = statements_exist ms (λ m c e. h m (Contains-there n ms m c) e) in
      elim (cases_Bool (is_id_or_context n.key)) [
        | inl entry ↦ (later.0, turn_entry n ms entry ∙ later.1)
        | inr other ↦
            let p = h n (Contains-here n ms) other in
            (property_statement id p.0.0 p.0.1 ∷ later.0, turn_property n ms other ∙ rw (p.1, later.1))
      ]

-- ---- from the parts to the definition

-- what `described` says where it gives statements
pub record Description (name : List ℕ) (terms members : List (Member Tree)) (ss : List Statement) : Type 0 where
  pub id : List ℕ
  pub identified : member_text at_id members ≡ Some id
  pub plain : is_plain_iri id ≡ true
  pub chosen : member_text at_context members ≡ Some name
  pub definitions : list_all is_definition terms ≡ true
  pub statements : statements_in terms id members ≡ Some ss

-- a document with statements is described by them
pub description : (name : List ℕ) (terms members : List (Member Tree)) (ss : List Statement) → document_statements (name, terms) members ≡ Some ss → Description name terms members ss
description name terms members ss h =
    let found = and_then-Some (λ id. option_and_then (λ chosen. only_if (agrees name chosen id terms) (statements_in terms id members)) (member_text at_context members)) (member_text at_id members) ss h in
    let chosen = and_then-Some (λ chosen. only_if (agrees name chosen found.0 terms) (statements_in terms found.0 members)) (member_text at_context members) ss found.2 in
    let given = provided-Some (agrees name chosen.0 found.0 terms) (statements_in terms found.0 members) ss chosen.2 in
    let first = left_of (is_plain_iri found.0 && bytes_eq name chosen.0) (list_all is_definition terms) given.0 in
    record {
      id = found.0;
      identified = found.1;
      plain = left_of (is_plain_iri found.0) _ first;
      chosen = chosen.1 ∙ ap Some (sym (bytes_eq-true name chosen.0 (right_of (is_plain_iri found.0) _ first)));
      definitions = right_of (is_plain_iri found.0 && bytes_eq name chosen.0) (list_all is_definition terms) given.0;
      statements = given.1;
    }

module _ (r : Tree) (lawful : is_lawful r ≡ true) (s : Shape r) (ss : List Statement) (d : Description s.supplied.key s.terms s.members ss) where
  defines : (term : List ℕ) → Contains (map (λ m. m.key) s.terms) term → DefinesTerm r s.supplied.key term
  defines term c =
      let found = Contains-from_map (λ (m : Member Tree). m.key) s.terms term c in
      let m = found.0 in
      let definition : is_definition m ≡ true = list_all-contains is_definition s.terms m d.definitions found.1 in
      let mapping = map_or-true is_plain_iri (text_of m.value) (right_of (is_plain_term m.key) _ definition) in
      let stands : value_of term s.terms ≡ Some m.value = subst (λ (k : List ℕ). value_of k s.terms ≡ Some m.value) found.2 (value_at_member s.terms m (terms_lawful r s lawful) found.1) in
      record {
        mapping = mapping.0;
        plain = subst (λ (k : List ℕ). is_plain_term k ≡ true) found.2 (left_of (is_plain_term m.key) _ definition);
        is = at_term r s term ∙ stands ∙ ap Some (text_of-Some m.value mapping.0 mapping.1);
        plain_iri = mapping.2;
      }

  identified_at : HasText (document_place at_id) r d.id
  identified_at = at_member r s at_id ∙ text_at-Some at_id s.members d.id d.identified

  chosen_at : HasText (document_place at_context) r s.supplied.key
  chosen_at = at_member r s at_context ∙ text_at-Some at_context s.members s.supplied.key d.chosen

  -- a property by its places
  record PropertyAt (key : List ℕ) (p : List ℕ × List ℕ) : Type 0 where
    pub value : HasText (document_place key) r p.1
    pub term : HasText (term_place s.supplied.key key) r p.0
    pub known : Contains (map (λ m. m.key) s.terms) key
    pub carried : has_noncharacter p.1 ≡ false

  property_at : (m : Member Tree) (p : List ℕ × List ℕ) → Contains s.members m → property_of s.terms m ≡ Some p → PropertyAt m.key p
  property_at m p c h =
      let q = property_parts s.terms m p h in
      let mapped : value_of m.key s.terms ≡ Some (v.Text p.0) = text_at-Some m.key s.terms p.0 q.mapping in
      let known = member_of_value s.terms m.key (v.Text p.0) m (value_of-Some s.terms m.key (v.Text p.0) mapped) in
      record {
        value = at_member r s m.key ∙ value_at_member s.members m (document_lawful r s lawful) c ∙ ap Some (text_of-Some m.value p.1 q.text);
        term = at_term r s m.key ∙ mapped;
        known = subst (Contains (map (λ m. m.key) s.terms)) known.2 (Contains-map (λ (m : Member Tree). m.key) s.terms known.0 known.1);
        carried = q.carried;
      }

  property_named : (key : List ℕ) → Contains (map (λ m. m.key) s.members) key → key ≢ at_id → key ≢ at_context → (p : List ℕ × List ℕ) × PropertyAt key p
  property_named key c not_id not_context =
      let found = Contains-from_map (λ (m : Member Tree). m.key) s.members key c in
      let plain : is_id_or_context found.0.key ≡ false = ap is_id_or_context found.2 ∙ entry_from key not_id not_context in
      let p = statement_of s.terms d.id s.members ss found.0 d.statements found.1 plain in
      (p.0, subst (λ (k : List ℕ). PropertyAt k p.0) found.2 (property_at found.0 p.0 found.1 p.1))

  -- the request is flat
  pub is_flat : IsFlat r
  is_flat = record {
    name = s.supplied.key;
    terms = map (λ m. m.key) s.terms;
    names = map (λ m. m.key) s.members;
    id = d.id;
    request = names-request r s;
    supplied = names-contexts r s;
    wrapped = names-supplied r s;
    context = names-terms r s;
    definitions = defines;
    document = names-document r s;
    identified = identified_at;
    plain_id = d.plain;
    chosen = chosen_at;
    keys = λ key c a b. let p = property_named key c a b in p.1.known;
    values = λ key c a b. let p = property_named key c a b in record { text = p.0.1; is = p.1.value; carried = λ h. true≢false (sym h ∙ p.1.carried) };
  }

  -- its statements mean what it means
  pub means_from : (t : Statement) → Contains ss t → Means r t
  means_from t c =
      let o = origin_of s.terms d.id s.members ss t d.statements c in
      let apart = entry_false o.0.key o.3 in
      let p = property_at o.0 o.1 o.2 o.4 in
      record {
        name = s.supplied.key;
        id = d.id;
        key = o.0.key;
        mapping = o.1.0;
        text = o.1.1;
        chosen = chosen_at;
        identified = identified_at;
        not_id = apart.0;
        not_context = apart.1;
        value = p.value;
        term = p.term;
        is = o.5;
      }

  pub means_to : (t : Statement) → Means r t → Contains ss t
  means_to t m =
      let name : m.name ≡ s.supplied.key = same_content m.name s.supplied.key (same_some (look (document_place at_context) r) _ _ m.chosen chosen_at) in
      let id : m.id ≡ d.id = same_content m.id d.id (same_some (look (document_place at_id) r) _ _ m.identified identified_at) in
      let stands : value_of m.key s.members ≡ Some (v.Text m.text) = sym (at_member r s m.key) ∙ m.value in
      let found = member_of_value s.members m.key (v.Text m.text) (record { key = m.key; value = v.Text m.text }) (value_of-Some s.members m.key (v.Text m.text) stands) in
      let plain : is_id_or_context found.0.key ≡ false = ap is_id_or_context found.2 ∙ entry_from m.key m.not_id m.not_context in
      let p = statement_of s.terms d.id s.members ss found.0 d.statements found.1 plain in
      let q = property_parts s.terms found.0 p.0 p.1 in
      let term : value_of m.key s.terms ≡ Some (v.Text m.mapping) = sym (at_term r s m.key) ∙ ap (λ (n : List ℕ). look (term_place n m.key) r) (sym name) ∙ m.term in
      let mapping : p.0.0 ≡ m.mapping = same_some (member_text found.0.key s.terms) _ _ q.mapping (ap (λ (k : List ℕ). member_text k s.terms) found.2 ∙ text_at-from m.key s.terms m.mapping term) in
      let text : p.0.1 ≡ m.text = same_some (text_of found.0.value) _ _ q.text (ap text_of found.3 ∙ text_of-Text m.text) in
      let same : property_statement d.id p.0.0 p.0.1 ≡ t = (λ i. property_statement (sym id i) (mapping i) (text i)) ∙ sym m.is in
      subst (Contains ss) same p.2

  -- the IRIs of what it means are plain
  pub means_plain : (t : Statement) (m : Means r t) → (is_plain_iri m.id ≡ true) × (is_plain_iri m.mapping ≡ true)
  means_plain t m =
      let name : m.name ≡ s.supplied.key = same_content m.name s.supplied.key (same_some (look (document_place at_context) r) _ _ m.chosen chosen_at) in
      let id : m.id ≡ d.id = same_content m.id d.id (same_some (look (document_place at_id) r) _ _ m.identified identified_at) in
      let term : value_of m.key s.terms ≡ Some (v.Text m.mapping) = sym (at_term r s m.key) ∙ ap (λ (n : List ℕ). look (term_place n m.key) r) (sym name) ∙ m.term in
      let found = member_of_value s.terms m.key (v.Text m.mapping) (record { key = m.key; value = v.Text m.mapping }) (value_of-Some s.terms m.key (v.Text m.mapping) term) in
      let known : Contains (map (λ m. m.key) s.terms) m.key = subst (Contains (map (λ m. m.key) s.terms)) found.2 (Contains-map (λ (n : Member Tree). n.key) s.terms found.0 found.1) in
      let definition = defines m.key known in
      let mapping : m.mapping ≡ definition.mapping = same_content m.mapping definition.mapping (same_some (look (term_place s.supplied.key m.key) r) _ _ (at_term r s m.key ∙ term) definition.is) in
      (ap is_plain_iri id ∙ d.plain, ap is_plain_iri mapping ∙ definition.plain_iri)
