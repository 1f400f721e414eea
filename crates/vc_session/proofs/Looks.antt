-- Look-ups one step below an object, and objects without a member.
use Rattle.std.proofs.Common.{◌≡◌, ℕ, Bool, true, false, ◌&&◌, List, [], ◌∷◌, Option, Some, None, is_some, is_none, option_map, option_and_then, refl, sym, ap, ◌∙◌, inl, inr, codes}
use Rattle.std.specs.Str.{bytes_eq}
use Rattle.std.specs.List.{list_all}
use Rattle.std.proofs.lemmas.Bool.{cases_Bool}
use Rattle.json_tree.specs.Trees.{is_lawful}
use Rattle.json_tree.proofs.Rising.{left_of, right_of}
use Rattle.json_tree.specs.declared.tree.Tree.{Tree, out-Tree}
use Rattle.json_tree.specs.declared.tree.Tree.TheOpen.{Tree-F}
use Rattle.json_tree.specs.declared.tree.Tree.TheVariants as v
use Rattle.json_tree.specs.declared.tree.Member.{Member}
use Rattle.json_tree.specs.declared.place.Step.TheVariants.{Key}
use Rattle.json_tree.specs.Places.{child_of, look, members_in, members_of, text_of, value_of}
use Rattle.json_tree.proofs.TreeLemmas.{child_of-members, members_lawful, members_of-Object, members_of-Some, text_of-Some, text_of-Text, look_nothing}
use Rattle.ld_rdf.specs.Flat.{HasText, at_context}
use Rattle.ld_rdf.specs.Internal.Parts.{only_if}
use Rattle.json_tree.specs.Members.{with_members, with_members_in, without, without_key}
use Rattle.ld_rdf.proofs.OptionsAndLists.{provided-Some, map_or-true}
use Rattle.vc_session.specs.Requests.{HasShape, at, value_name}
use Rattle.vc_session.specs.Internal.RequestMembers.{has_form, has_text, lacks, method_in, text_under}
use Rattle.base_types.proofs.Orders.{bytes_eq-true, bytes_eq-same}
use Rattle.base_types.proofs.Options.{and_then-Some, is_none-true}
use Rattle.json_tree.proofs.MemberChanges.{members_of-with_members, value_gone, without_absent}

-- ---- one step

-- below the root stands the value of the member
pub look_at : (t : Tree) (key : List ℕ) → look (at key) t ≡ option_and_then (value_of key) (members_of t)
look_at t key = look_nothing (child_of t (Key key)) ∙ child_of-members t key

-- below an object stands the value of its member
pub look_in : (t : Tree) (members : List (Member Tree)) (key : List ℕ) → members_of t ≡ Some members → look (at key) t ≡ value_of key members
look_in t members key is = look_at t key ∙ ap (option_and_then (value_of key)) is

-- the same of an object that is made of members
pub look_object : (members : List (Member Tree)) (key : List ℕ) → look (at key) (v.Object members) ≡ value_of key members
look_object members key = look_in (v.Object members) members key (members_of-Object members)

-- ---- texts

-- the text below a key is the text that is told
pub text_under-from : (key : List ℕ) (t : Tree) (text : List ℕ) → HasText (at key) t text → text_under key t ≡ Some text
text_under-from key t text h = ap (option_and_then text_of) h ∙ text_of-Text text

-- the text that is told stands below the key
pub text_under-Some : (key : List ℕ) (t : Tree) (text : List ℕ) → text_under key t ≡ Some text → HasText (at key) t text
text_under-Some key t text h = let f = and_then-Some text_of (look (at key) t) text h in f.1 ∙ ap Some (text_of-Some f.0 text f.2)

some_from : {A : Type 0} (o : Option A) → is_some o ≡ true → (x : A) × (o ≡ Some x)
some_from None h = absurd (cc)
some_from (Some x) h = (x, refl)

has_text-from : (key text : List ℕ) (t : Tree) → HasText (at key) t text → has_text key text t ≡ true
has_text-from key text t h = rw (text_under-from key t text h) (bytes_eq-same text text refl)

has_text-true : (key text : List ℕ) (t : Tree) → has_text key text t ≡ true → HasText (at key) t text
has_text-true key text t h =
    let f = map_or-true (λ s. bytes_eq s text) (text_under key t) h in
    text_under-Some key t text (f.1 ∙ ap Some (bytes_eq-true f.0 text f.2))

-- ---- the form of options

-- the shape, but for the value
pub record Form (o : Tree) (method : List ℕ) : Type 0 where
  pub purpose : List ℕ
  pub type_is : HasText (at (codes "type")) o (codes "DataIntegrityProof")
  pub suite_is : HasText (at (codes "cryptosuite")) o (codes "ecdsa-sd-2023")
  pub method_is : HasText (at (codes "verificationMethod")) o method
  pub purpose_is : HasText (at (codes "proofPurpose")) o purpose
  pub no_created : look (at (codes "created")) o ≡ None
  pub no_expires : look (at (codes "expires")) o ≡ None
  pub no_context : look (at at_context) o ≡ None

six : (a b c d e f : Bool) → (a && b && c && d && e && f) ≡ true → (a ≡ true) × (b ≡ true) × (c ≡ true) × (d ≡ true) × (e ≡ true) × (f ≡ true)
six true true true true true true h = (refl, refl, refl, refl, refl, refl)
six false b c d e f h = absurd (cc)
six true false c d e f h = absurd (cc)
six true true false d e f h = absurd (cc)
six true true true false e f h = absurd (cc)
six true true true true false f h = absurd (cc)
six true true true true true false h = absurd (cc)

six_true : (a b c d e f : Bool) → a ≡ true → b ≡ true → c ≡ true → d ≡ true → e ≡ true → f ≡ true → (a && b && c && d && e && f) ≡ true
six_true a b c d e f p q r s t u = rw (p, q, r, s, t, u) refl

module _ (o : Tree) where
  abbrev t1 : Bool
  t1 = has_text (codes "type") (codes "DataIntegrityProof") o

  abbrev t2 : Bool
  t2 = has_text (codes "cryptosuite") (codes "ecdsa-sd-2023") o

  abbrev t3 : Bool
  t3 = is_some (text_under (codes "proofPurpose") o)

  abbrev t4 : Bool
  t4 = lacks (codes "created") o

  abbrev t5 : Bool
  t5 = lacks (codes "expires") o

  abbrev t6 : Bool
  t6 = lacks at_context o

  pub form_of : (method : List ℕ) → method_in o ≡ Some method → Form o method
  form_of method h =
      let given = provided-Some (has_form o) (text_under (codes "verificationMethod") o) method h in
      let g = six t1 t2 t3 t4 t5 t6 given.0 in
      let purpose = some_from (text_under (codes "proofPurpose") o) g.2 in
      record {
        purpose = purpose.0;
        type_is = has_text-true (codes "type") (codes "DataIntegrityProof") o g.0;
        suite_is = has_text-true (codes "cryptosuite") (codes "ecdsa-sd-2023") o g.1;
        method_is = text_under-Some (codes "verificationMethod") o method given.1;
        purpose_is = text_under-Some (codes "proofPurpose") o purpose.0 purpose.1;
        no_created = is_none-true (look (at (codes "created")) o) g.3;
        no_expires = is_none-true (look (at (codes "expires")) o) g.4;
        no_context = is_none-true (look (at at_context) o) g.5;
      }

  pub method_from : (method : List ℕ) → Form o method → method_in o ≡ Some method
  method_from method f =
      let holds : has_form o ≡ true = six_true t1 t2 t3 t4 t5 t6
      (has_text-from (codes "type") (codes "DataIntegrityProof") o f.type_is)
      (has_text-from (codes "cryptosuite") (codes "ecdsa-sd-2023") o f.suite_is)
      (ap is_some (text_under-from (codes "proofPurpose") o f.purpose f.purpose_is))
      (ap is_none f.no_created) (ap is_none f.no_expires) (ap is_none f.no_context) in
      ap (λ b. only_if b (text_under (codes "verificationMethod") o)) holds ∙ text_under-from (codes "verificationMethod") o method f.method_is

-- two trees have the same members but for the value
abbrev pub SameBeside : List ℕ → Tree → Tree → Type 0
SameBeside other t u = (key : List ℕ) → bytes_eq other key ≡ false → look (at key) u ≡ look (at key) t

-- a form that is told of a tree beside one member is its shape
pub shape_from : (t u : Tree) (method : List ℕ) → SameBeside value_name t u → Form t method → look (at value_name) u ≡ None → HasShape u method
shape_from t u method same f none = record {
  purpose = f.purpose;
  type_is = same (codes "type") refl ∙ f.type_is;
  suite_is = same (codes "cryptosuite") refl ∙ f.suite_is;
  method_is = same (codes "verificationMethod") refl ∙ f.method_is;
  purpose_is = same (codes "proofPurpose") refl ∙ f.purpose_is;
  no_created = same (codes "created") refl ∙ f.no_created;
  no_expires = same (codes "expires") refl ∙ f.no_expires;
  no_value = none;
  no_context = same at_context refl ∙ f.no_context;
}

-- the shape of a tree beside one member is its form
pub form_from : (t u : Tree) (method : List ℕ) → SameBeside value_name t u → HasShape u method → Form t method
form_from t u method same s = record {
  purpose = s.purpose;
  type_is = sym (same (codes "type") refl) ∙ s.type_is;
  suite_is = sym (same (codes "cryptosuite") refl) ∙ s.suite_is;
  method_is = sym (same (codes "verificationMethod") refl) ∙ s.method_is;
  purpose_is = sym (same (codes "proofPurpose") refl) ∙ s.purpose_is;
  no_created = sym (same (codes "created") refl) ∙ s.no_created;
  no_expires = sym (same (codes "expires") refl) ∙ s.no_expires;
  no_context = sym (same at_context refl) ∙ s.no_context;
}

-- ---- without a member

value_of-without : (key other : List ℕ) (ms : List (Member Tree)) → bytes_eq other key ≡ false → value_of key (without_key other ms) ≡ value_of key ms
value_of-without key other [] differ = refl
value_of-without key other (m ∷ ms) differ =
    elim (cases_Bool (bytes_eq m.key other)) [
      | inl this ↦
          let apart : bytes_eq m.key key ≡ false = ap (λ (k : List ℕ). bytes_eq k key) (bytes_eq-true m.key other this) ∙ differ in
          rw (this, apart) (value_of-without key other ms differ)
      | inr kept ↦ elim (cases_Bool (bytes_eq m.key key)) [ inl here ↦ rw (kept, here) refl | inr other_key ↦ rw (kept, other_key) (value_of-without key other ms differ) ]
    ]

through_without : (key other : List ℕ) (o : Option (List (Member Tree))) → bytes_eq other key ≡ false → option_and_then (value_of key) (option_map (without_key other) o) ≡ option_and_then (value_of key) o
through_without key other None differ = refl
through_without key other (Some ms) differ = value_of-without key other ms differ

through_removed : (key : List ℕ) (o : Option (List (Member Tree))) → option_and_then (value_of key) (option_map (without_key key) o) ≡ None
through_removed key None = refl
through_removed key (Some ms) = value_gone key ms

-- a tree without a member is the same beside it
pub look_without : (t : Tree) (other : List ℕ) → SameBeside other t (without other t)
look_without t other = λ key differ.
    look_at (without other t) key ∙ ap (option_and_then (value_of key)) (members_of-with_members (without_key other) t) ∙ through_without key other (members_of t) differ ∙ sym (look_at t key)

-- a member that is taken out is not there
pub look_removed : (t : Tree) (key : List ℕ) → look (at key) (without key t) ≡ None
look_removed t key = look_at (without key t) key ∙ ap (option_and_then (value_of key)) (members_of-with_members (without_key key) t) ∙ through_removed key (members_of t)

-- to take out what is not there changes nothing
pub without_none : (key : List ℕ) (t : Tree) → look (at key) t ≡ None → without key t ≡ t
without_none key t none = by_level (out-Tree t) refl
  where
    by_level : (x : Tree-F Tree) → out-Tree t ≡ x → with_members_in (without_key key) t x ≡ t
    by_level Tree-F.Null e = refl
    by_level (Tree-F.Bool b) e = refl
    by_level (Tree-F.Whole z) e = refl
    by_level Tree-F.Version e = refl
    by_level (Tree-F.Text s) e = refl
    by_level (Tree-F.List items) e = refl
    by_level (Tree-F.Object ms) e =
        let is : members_of t ≡ Some ms = ap members_in e in
        ap v.Object (without_absent key ms (sym (look_in t ms key is) ∙ none)) ∙ sym (members_of-Some t ms is)

-- ---- what holds of each value

value_of-all : (p : Tree → Bool) (key : List ℕ) (ms : List (Member Tree)) (u : Tree) → list_all (λ m. p m.value) ms ≡ true → value_of key ms ≡ Some u → p u ≡ true
value_of-all p key [] u h e = absurd (cc)
value_of-all p key (m ∷ ms) u h e =
    elim (cases_Bool (bytes_eq m.key key)) [
      | inl this ↦
          let found : value_of key (m ∷ ms) ≡ Some m.value = rw this refl in
          let same : m.value ≡ u = cc in
          ap p (sym same) ∙ left_of (p m.value) _ h
      | inr other_key ↦
          let later : value_of key (m ∷ ms) ≡ value_of key ms = rw other_key refl in
          value_of-all p key ms u (right_of (p m.value) _ h) (sym later ∙ e)
    ]

-- what stands below a lawful tree is lawful
pub found_lawful : (t u : Tree) (key : List ℕ) → is_lawful t ≡ true → look (at key) t ≡ Some u → is_lawful u ≡ true
found_lawful t u key lawful is =
    let f = and_then-Some (value_of key) (members_of t) u (sym (look_at t key) ∙ is) in
    value_of-all is_lawful key f.0 u (members_lawful t f.0 lawful (members_of-Some t f.0 f.1)) f.2
