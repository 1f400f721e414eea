-- Members turned around, places in the order of names, and drafts.
use Rattle.std.proofs.Common.{◌≡◌, ◌⊎◌, ◌<◌, ◌≤◌, ◌+◌, ◌||◌, ℕ, zero, suc, true, false, List, [], ◌∷◌, ◌++◌, length, get_or, drop, insert, reverse, refl, sym, ap, ◌∙◌, subst, arith, add-one, drop-cons, append_assoc, inl, inr}
use Rattle.std.proofs.lemmas.List.{reverse-append, reverse-reverse}
use Rattle.std.specs.Str.{bytes_eq}
use Rattle.json_tree.specs.declared.tree.Tree.{Tree}
use Rattle.json_tree.specs.declared.tree.Tree.TheVariants as v
use Rattle.json_tree.specs.declared.tree.Member.{Member}
use Rattle.json_tree.specs.Trees.{new_member, is_before}
use Rattle.json_tree.specs.Members.{put_member, with_member}
use Rattle.vc_session.specs.declared.draft.Slot.{Slot}
use Rattle.vc_session.specs.declared.draft.Draft.{Draft}
use Rattle.vc_session.specs.Requests.{proof_name, with_proof, value_name}
use Rattle.vc_session.specs.Internal.Drafts.{IsObject, IsPrintable, with_value_at, object_with, document_with, is_named, place_of}
use Rattle.vc_session.proofs.Putting.{fill_new, fill_own, value_set, text_printable, with_member-Object, with_member-printable}
use Rattle.base_types.proofs.Lists.{drop-next}

-- ---- turned around

last_first : (xs : List (Member Tree)) (x : Member Tree) → reverse (xs ++ x ∷ []) ≡ x ∷ reverse xs
last_first xs x = reverse-append xs (x ∷ [])

-- a member more is turned round
pub turned_more : (whole turned old new : List (Member Tree)) (last : Member Tree) → reverse whole ≡ turned ++ reverse old → old ≡ new ++ last ∷ [] → reverse whole ≡ (turned ++ last ∷ []) ++ reverse new
turned_more whole turned old new last h e = h ∙ ap (λ l. turned ++ reverse l) e ∙ ap (λ l. turned ++ l) (last_first new last) ∙ sym (append_assoc turned (last ∷ []) (reverse new))

-- ---- places

-- past a member of an earlier name the place is one further
pub place_on : (key : List ℕ) (ms : List (Member Tree)) (at : ℕ) (n : Member Tree) → place_of key ms ≡ at + place_of key (drop at ms) → at < length ms → n ≡ get_or ms at n → is_before key n.key ≡ false → bytes_eq key n.key ≡ false → place_of key ms ≡ (at + 1) + place_of key (drop (at + 1) ms)
place_on key ms at n h within is low other =
    let here : place_of key (drop at ms) ≡ suc (place_of key (drop (at + 1) ms)) = ap (place_of key) (drop-next ms at n within is) ∙ (let e : place_of key (n ∷ drop (at + 1) ms) ≡ suc (place_of key (drop (at + 1) ms)) = rw (low, other) refl in e) in
    omega (arith, h, here)

place_stops : (key : List ℕ) (ms : List (Member Tree)) (at : ℕ) (n : Member Tree) → place_of key ms ≡ at + place_of key (drop at ms) → at < length ms → n ≡ get_or ms at n → (is_before key n.key || bytes_eq key n.key) ≡ true → place_of key ms ≡ at
place_stops key ms at n h within is stop =
    let here : place_of key (drop at ms) ≡ 0 = ap (place_of key) (drop-next ms at n within is) ∙ (let e : place_of key (n ∷ drop (at + 1) ms) ≡ 0 = rw stop refl in e) in
    omega (arith, h, here)

-- before a member of a later name the place is found
pub place_before : (key : List ℕ) (ms : List (Member Tree)) (at : ℕ) (n : Member Tree) → place_of key ms ≡ at + place_of key (drop at ms) → at < length ms → n ≡ get_or ms at n → is_before key n.key ≡ true → at ≡ place_of key ms
place_before key ms at n h within is low = sym (place_stops key ms at n h within is (rw low refl))

-- at a member of the name the place is found
pub place_equal : (key : List ℕ) (ms : List (Member Tree)) (at : ℕ) (n : Member Tree) → place_of key ms ≡ at + place_of key (drop at ms) → at < length ms → n ≡ get_or ms at n → is_before key n.key ≡ false → bytes_eq key n.key ≡ true → at ≡ place_of key ms
place_equal key ms at n h within is low same = sym (place_stops key ms at n h within is (rw (low, same) refl))

-- ---- slots

-- whether the member at this place has the name
pub named_there : (ms : List (Member Tree)) (at : ℕ) (key : List ℕ) (n : Member Tree) → at < length ms → n ≡ get_or ms at n → bytes_eq n.key key ≡ is_named ms at key
named_there [] at key n within is = absurd (omega (arith, within))
named_there (m ∷ ms) zero key n within is = ap (λ (x : Member Tree). bytes_eq x.key key) is
named_there (m ∷ ms) (suc at) key n within is = named_there ms at key n (omega (arith, within)) is

-- past the members none has the name
pub named_past : (ms : List (Member Tree)) (at : ℕ) (key : List ℕ) → length ms ≤ at → false ≡ is_named ms at key
named_past [] at key past = refl
named_past (m ∷ ms) zero key past = absurd (omega (arith, past))
named_past (m ∷ ms) (suc at) key past = named_past ms at key (omega (arith, past))

named_within : (ms : List (Member Tree)) (at : ℕ) (key : List ℕ) (d : Member Tree) → is_named ms at key ≡ true → (at < length ms) × (bytes_eq (get_or ms at d).key key ≡ true)
named_within [] at key d h = absurd (cc)
named_within (m ∷ ms) zero key d h = (omega arith, h)
named_within (m ∷ ms) (suc at) key d h = let r = named_within ms at key d h in (omega (arith, r.0), r.1)

named_not : (ms : List (Member Tree)) (at : ℕ) (key : List ℕ) (d : Member Tree) → at ≤ length ms → is_named ms at key ≡ false → (at ≡ length ms) ⊎ (bytes_eq (get_or ms at d).key key ≡ false)
named_not [] at key d within h = inl (omega (arith, within))
named_not (m ∷ ms) zero key d within h = inr h
named_not (m ∷ ms) (suc at) key d within h = elim (named_not ms at key d (omega (arith, within)) h) [ inl e ↦ inl (ap suc e) | inr e ↦ inr e ]

-- a named place is one of a member
pub slot_within : (ms : List (Member Tree)) (at : ℕ) (key : List ℕ) → is_named ms at key ≡ true → at < length ms
slot_within ms at key h = (named_within ms at key (new_member [] v.Null) h).0

-- a value at the place of its name is put in in the place of the old one
pub slot_own : (ms : List (Member Tree)) (at : ℕ) (key : List ℕ) → at ≡ place_of key ms → is_named ms at key ≡ true → (value : Tree) → with_value_at ms at value ≡ put_member (new_member key value) ms
slot_own ms at key place h = λ value.
    let own = named_within ms (place_of key ms) key (new_member [] v.Null) (subst (λ (n : ℕ). is_named ms n key ≡ true) place h) in
    ap (λ (n : ℕ). with_value_at ms n value) place ∙ fill_own key value ms (new_member [] v.Null) own.0 own.1

-- a value at the place of a name that none has is put in beside the others
pub slot_new : (ms : List (Member Tree)) (at : ℕ) (key : List ℕ) (w : Tree) → at ≡ place_of key ms → at ≤ length ms → is_named ms at key ≡ false → (value : Tree) → with_value_at (insert ms at (new_member key w)) at value ≡ put_member (new_member key value) ms
slot_new ms at key w place within h = λ value.
    let other = named_not ms (place_of key ms) key (new_member [] v.Null) (subst (λ (n : ℕ). n ≤ length ms) place within) (subst (λ (n : ℕ). is_named ms n key ≡ false) place h) in
    ap (λ (n : ℕ). with_value_at (insert ms n (new_member key w)) n value) place ∙ fill_new key value w ms (new_member [] v.Null) other

-- an object turned round and back has a slot for its member
pub slot_object : (object : Tree) (members once turned twice : List (Member Tree)) (slot : Slot) (key : List ℕ) → object ≡ v.Object members → turned ≡ reverse members → once ≡ turned → twice ≡ reverse once → ((value : Tree) → with_value_at slot.members.items slot.at value ≡ put_member (new_member key value) twice) → (value : Tree) → object_with slot value ≡ with_member key value object
slot_object object members once turned twice slot key is first same second puts = λ value.
    let whole : twice ≡ members = second ∙ ap reverse same ∙ ap reverse first ∙ reverse-reverse members in
    ap v.Object (puts value) ∙ ap (λ (l : List (Member Tree)). v.Object (put_member (new_member key value) l)) whole
    ∙ sym (with_member-Object key value members) ∙ ap (with_member key value) (sym is)

-- ---- drafts

module _ (draft : Draft) (d o : Tree) (document : (value : Tree) → object_with draft.document value ≡ with_member proof_name value d) (options : (value : Tree) → object_with draft.options value ≡ with_member value_name value o) where
  pub draft_secured : (value : List ℕ) → document_with draft value ≡ with_proof d o value
  draft_secured value = document (object_with draft.options (v.Text value)) ∙ ap (λ (x : Tree). with_member proof_name x d) (options (v.Text value))

  pub draft_printable : IsObject d × IsPrintable d → IsObject o × IsPrintable o → (value : List ℕ) → IsPrintable (document_with draft value)
  draft_printable p q = λ value.
      let s : IsPrintable (with_proof d o value) = secured_printable value p q in
      subst IsPrintable (sym (draft_secured value)) s
    where
      options_object : (value : List ℕ) → IsObject o × IsPrintable o → IsPrintable (with_member value_name (v.Text value) o)
      options_object value q = with_member-printable value_name (v.Text value) o (text_printable value) q.0 q.1

      secured_printable : (value : List ℕ) → IsObject d × IsPrintable d → IsObject o × IsPrintable o → IsPrintable (with_proof d o value)
      secured_printable value p q = with_member-printable proof_name (with_member value_name (v.Text value) o) d (options_object value q) p.0 p.1

pub ruleset turning = (turned_more)

pub ruleset placing = (place_on, place_before, place_equal)

pub ruleset naming = (named_there, named_past)

pub ruleset slots = (slot_own, slot_new, slot_within)

pub ruleset objects = (slot_object)

pub ruleset filling = (value_set)

pub ruleset drafts = (draft_secured, draft_printable)
