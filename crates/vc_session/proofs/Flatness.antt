-- Flat documents and flat options are objects of texts, and what follows for the task of a request.
use Rattle.std.proofs.Common.{◌≡◌, ℕ, Bool, true, false, List, [], ◌∷◌, map, Contains, Option, Some, None, option_and_then, refl, sym, ap, ◌∙◌, subst, inl, inr, codes}
use Rattle.std.specs.Str.{bytes_eq}
use Rattle.std.specs.List.{list_all, list_any}
use Rattle.std.proofs.lemmas.Bool.{cases_Bool}
use Rattle.base_types.proofs.Lists.{Contains-here, Contains-map, Contains-there, same_some}
use Rattle.json_tree.specs.declared.tree.Tree.{Tree, out-Tree}
use Rattle.json_tree.specs.declared.tree.Tree.TheVariants as v
use Rattle.json_tree.specs.declared.tree.Member.{Member}
use Rattle.json_tree.specs.declared.place.Step.{Step}
use Rattle.json_tree.specs.declared.place.Step.TheVariants.{Key}
use Rattle.json_tree.specs.Places.{look, members_of, names_at, names_in, value_of}
use Rattle.json_tree.specs.Trees.{new_member, holds_version, is_in_range, is_lawful}
use Rattle.json_tree.proofs.Rising.{left_of, right_of}
use Rattle.json_tree.proofs.TreeLemmas.{child_of-Object-Key, is_lawful-Text, members_lawful, members_of-Some, names_at-members}
use Rattle.json_tree.proofs.Equations.{holds_version-Object, holds_version-Text, is_in_range-Object}
use Rattle.ld_rdf.specs.Flat.{HasText, IsFlat, at_context, at_id, document_place}
use Rattle.json_tree.specs.Members.{put_member}
use Rattle.ld_rdf.specs.Reduced.{statements_request, with_context}
use Rattle.ld_rdf.proofs.Shapes.{members_are_lawful}
use Rattle.ld_rdf.proofs.Meaning.{value_at_member}
use Rattle.vc_session.specs.declared.requests.IssueRead.{IssueRead}
use Rattle.vc_session.specs.declared.tasks.IssueTask.{IssueTask}
use Rattle.key_device.specs.declared.table.KeyTable.{KeyTable}
use Rattle.vc_session.specs.Requests.{at, issue_object, whole_document}
use Rattle.vc_session.specs.Internal.Tasks.{IsIssueTask}
use Rattle.vc_session.specs.Internal.Drafts.{IsObject, IsPrintable}
use Rattle.vc_session.specs.Internal.RequestMembers.{IsIssueRead}
use Rattle.vc_session.proofs.Looks.{look_in}
use Rattle.vc_session.proofs.Putting.{put_contains, with_member-lawful}
use Rattle.base_types.proofs.Orders.{bytes_eq-true, bytes_eq-same}
use Rattle.base_types.proofs.Options.{option_map-Some}
use Rattle.json_tree.proofs.MemberChanges.{members_of-with_members}

abbrev keys : List (Member Tree) → List (List ℕ)
keys ms = map (λ m. m.key) ms

-- ---- the members of a flat document

document_is : (c d : Tree) (place : List Step) → look (Key (codes "document") ∷ place) (statements_request c d) ≡ look place d
document_is c d place = ap (option_and_then (look place)) (child_of-Object-Key (new_member (codes "contexts") c ∷ new_member (codes "document") d ∷ []) (codes "document"))

flat_members : (c d : Tree) (names : List (List ℕ)) → names_at (Key (codes "document") ∷ []) (statements_request c d) ≡ Some names → (ms : List (Member Tree)) × (members_of d ≡ Some ms) × (keys ms ≡ names)
flat_members c d names is =
    let here : names_at [] d ≡ Some names = sym (ap (option_and_then (λ u. names_in (out-Tree u))) (document_is c d [])) ∙ is in
    option_map-Some keys (members_of d) names (sym (names_at-members d) ∙ here)

-- an object whose members are texts
pub record Texts (t : Tree) : Type 0 where
  pub members : List (Member Tree)
  pub is : members_of t ≡ Some members
  pub texts : (m : Member Tree) → Contains members m → (text : List ℕ) × (m.value ≡ v.Text text)

module _ (c d : Tree) (f : IsFlat (statements_request c d)) (lawful : is_lawful d ≡ true) where
  text_member : (ms : List (Member Tree)) (m : Member Tree) (key text : List ℕ) → members_of d ≡ Some ms → value_of m.key ms ≡ Some m.value → m.key ≡ key → HasText (document_place key) (statements_request c d) text → m.value ≡ v.Text text
  text_member ms m key text is here named has =
      let there : value_of key ms ≡ Some (v.Text text) = sym (look_in d ms key is) ∙ sym (document_is c d (at key)) ∙ has in
      same_some (value_of key ms) m.value (v.Text text) (subst (λ (k : List ℕ). value_of k ms ≡ Some m.value) named here) there

  pub flat_texts : Texts d
  flat_texts =
      let found = flat_members c d f.names f.document in
      let all = members_are_lawful d found.0 lawful found.1 in
      record {
        members = found.0;
        is = found.1;
        texts = λ m con.
            let here = value_at_member found.0 m all con in
            elim (cases_Bool (bytes_eq m.key at_id)) [
              | inl id ↦ (f.id, text_member found.0 m at_id f.id found.1 here (bytes_eq-true m.key at_id id) f.identified)
              | inr no_id ↦ elim (cases_Bool (bytes_eq m.key at_context)) [
                | inl context ↦ (f.name, text_member found.0 m at_context f.name found.1 here (bytes_eq-true m.key at_context context) f.chosen)
                | inr no_context ↦
                    let known : Contains f.names m.key = subst (λ (l : List (List ℕ)). Contains l m.key) found.2 (Contains-map (λ (k : Member Tree). k.key) found.0 m con) in
                    let value = f.values m.key known (λ e. let t : bytes_eq m.key at_id ≡ true = bytes_eq-same m.key at_id e in absurd (cc)) (λ e. let t : bytes_eq m.key at_context ≡ true = bytes_eq-same m.key at_context e in absurd (cc)) in
                    (value.text, text_member found.0 m m.key value.text found.1 here refl value.is)
              ]
            ];
      }

-- options, which take a context, are objects of texts themselves
pub option_texts : (c o : Tree) (name : List ℕ) → IsFlat (statements_request c (with_context name o)) → is_lawful o ≡ true → look (at at_context) o ≡ None → Texts o
option_texts c o name f lawful none =
    let x : Member Tree = new_member at_context (v.Text name) in
    let found = flat_members c (with_context name o) f.names f.document in
    let inner = option_map-Some (put_member x) (members_of o) found.0 (sym (members_of-with_members (put_member x) o) ∙ found.1) in
    let is_object : o ≡ v.Object inner.0 = members_of-Some o inner.0 inner.1 in
    let object_lawful : is_lawful (v.Object inner.0) ≡ true = ap is_lawful (sym is_object) ∙ lawful in
    let taken_lawful : is_lawful (with_context name o) ≡ true = ap (λ t. is_lawful (with_context name t)) is_object ∙ with_member-lawful at_context (v.Text name) inner.0 (is_lawful-Text name) object_lawful in
    let texts = flat_texts c (with_context name o) f taken_lawful in
    let same : texts.members ≡ put_member x inner.0 = same_some (members_of (with_context name o)) texts.members (put_member x inner.0) texts.is (found.1 ∙ ap Some (sym inner.2)) in
    let all = members_are_lawful o inner.0 lawful inner.1 in
    record {
      members = inner.0;
      is = inner.1;
      texts = λ m con. elim (put_contains x m inner.0 con) [
        | inl there ↦ texts.texts m (subst (λ (l : List (Member Tree)). Contains l m) (sym same) there)
        | inr named ↦
            let here : value_of m.key inner.0 ≡ Some m.value = value_at_member inner.0 m all con in
            let nothing : value_of at_context inner.0 ≡ None = sym (look_in o inner.0 at_context inner.1) ∙ none in
            let there : value_of at_context inner.0 ≡ Some m.value = subst (λ (k : List ℕ). value_of k inner.0 ≡ Some m.value) (sym named) here in
            absurd (cc)
      ];
    }

-- ---- such objects are printed as they are

none_texts : (ms : List (Member Tree)) → ((m : Member Tree) → Contains ms m → (text : List ℕ) × (m.value ≡ v.Text text)) → list_any (λ m. holds_version m.value) ms ≡ false
none_texts [] h = refl
none_texts (m ∷ ms) h =
    let e = h m (Contains-here m ms) in
    let none : holds_version m.value ≡ false = ap holds_version e.1 ∙ holds_version-Text e.0 in
    rw none (none_texts ms (λ n c. h n (Contains-there m ms n c)))

-- a tree of texts is an object
pub texts_object : (t : Tree) → Texts t → IsObject t
texts_object t x = record { members = x.members; is = members_of-Some t x.members x.is }

-- a lawful tree of texts is printed as it is
pub texts_printable : (t : Tree) → Texts t → is_lawful t ≡ true → is_in_range t ≡ true → IsPrintable t
texts_printable t x lawful small = record {
  lawful = lawful;
  in_range = small;
  whole = ap holds_version (members_of-Some t x.members x.is) ∙ holds_version-Object x.members ∙ none_texts x.members x.texts;
}

-- ---- the document and the options of a request for issuing

abbrev five_entries : Tree → Tree → Tree → Tree → Tree → List (Member Tree)
five_entries c d k m o = new_member (codes "contexts") c ∷ new_member (codes "document") d ∷ new_member (codes "keys") k ∷ new_member (codes "mandatory") m ∷ new_member (codes "options") o ∷ []

of_document : (p : Tree → Bool) (c d k m o : Tree) → list_all (λ (n : Member Tree). p n.value) (five_entries c d k m o) ≡ true → p d ≡ true
of_document p c d k m o all = left_of (p d) _ (right_of (p c) _ all)

of_options : (p : Tree → Bool) (c d k m o : Tree) → list_all (λ (n : Member Tree). p n.value) (five_entries c d k m o) ≡ true → p o ≡ true
of_options p c d k m o all = left_of (p o) _ (right_of (p m) _ (right_of (p k) _ (right_of (p d) _ (right_of (p c) _ all))))

-- what is said of the document and of the options
pub record Held (d o : Tree) : Type 0 where
  pub document : Texts d
  pub options : Texts o
  pub lawful : (is_lawful d ≡ true) × (is_lawful o ≡ true)
  pub in_range : (is_in_range d ≡ true) × (is_in_range o ≡ true)

-- what a read request holds can be issued
pub held : (r : Tree) (read : IssueRead) (x : IsIssueRead r read) → is_lawful r ≡ true → is_in_range r ≡ true → Held x.case_of.parts.document x.case_of.parts.options
held r read x lawful small =
    let p = x.case_of.parts in
    let i = x.is_case.are in
    let es = five_entries p.contexts p.document p.keys whole_document p.options in
    let all : list_all (λ (n : Member Tree). is_lawful n.value) es ≡ true = members_lawful r es lawful i.is in
    let alls : list_all (λ (n : Member Tree). is_in_range n.value) es ≡ true = sym (is_in_range-Object es) ∙ ap is_in_range (sym i.is) ∙ small in
    let dl = of_document is_lawful p.contexts p.document p.keys whole_document p.options all in
    let ol = of_options is_lawful p.contexts p.document p.keys whole_document p.options all in
    record {
      document = flat_texts p.contexts p.document i.document dl;
      options = option_texts p.contexts p.options p.name i.options ol i.shape.no_context;
      lawful = (dl, ol);
      in_range = (of_document is_in_range p.contexts p.document p.keys whole_document p.options alls, of_options is_in_range p.contexts p.document p.keys whole_document p.options alls);
    }

-- ---- the task

abbrev pair : Tree → Tree → Tree × Tree
pair d o = (d, o)

module _ (r : Tree) (read : IssueRead) (x : IsIssueRead r read) (lawful : is_lawful r ≡ true) (small : is_in_range r ≡ true) (t : IssueTask) (taken : (c d k m o : Tree) → r ≡ issue_object c d k m o → Some (pair t.document t.options) ≡ Some (pair d o)) where
  same_pair : pair t.document t.options ≡ pair x.case_of.parts.document x.case_of.parts.options
  same_pair =
      let p = x.case_of.parts in
      same_some (Some (pair p.document p.options)) (pair t.document t.options) (pair p.document p.options) (sym (taken p.contexts p.document p.keys whole_document p.options x.is_case.are.is)) refl

  both : (P : Tree → Tree → Type 0) → P x.case_of.parts.document x.case_of.parts.options → P t.document t.options
  both P h = subst (λ (y : Tree × Tree). P y.0 y.1) (sym same_pair) h

  pub task_held : Held t.document t.options
  task_held = both Held (held r read x lawful small)

  pub task_from_read : t.method ≡ read.method → t.keys ≡ read.keys → t.quads ≡ read.quads → t.option_quads ≡ read.option_quads → IsIssueTask r t
  task_from_read m k q u =
      let h = task_held in
      record {
        case_of = x.case_of;
        is_case = x.is_case;
        document = ap (λ (y : Tree × Tree). y.0) same_pair;
        options = ap (λ (y : Tree × Tree). y.1) same_pair;
        method = m ∙ x.method;
        keys = ap (λ (y : KeyTable). y.entries) k ∙ x.keys;
        quads = q ∙ x.quads;
        option_quads = u ∙ x.option_quads;
        are_statements = x.are_statements;
        are_options = x.are_options;
        lawful = h.lawful;
        in_range = h.in_range;
      }

  pub task_objects : IsObject t.document × IsObject t.options
  task_objects = let h = task_held in (texts_object t.document h.document, texts_object t.options h.options)

  pub task_printable : IsPrintable t.document × IsPrintable t.options
  task_printable =
      let h = task_held in
      (texts_printable t.document h.document h.lawful.0 h.in_range.0, texts_printable t.options h.options h.lawful.1 h.in_range.1)
