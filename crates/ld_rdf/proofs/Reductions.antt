-- The entries and the statements of members without one of them, and with a context put in.
use Rattle.std.proofs.Common.{◌≡◌, ℕ, true, false, List, [], ◌∷◌, Option, Some, None, option_map, option_and_then, inl, inr, refl, sym, ap, ◌∙◌}
use Rattle.std.specs.Str.{bytes_eq}
use Rattle.std.proofs.lemmas.Bool.{cases_Bool}
use Rattle.base_types.proofs.Orders.{bytes_eq-true, bytes_eq-differ}
use Rattle.json_tree.specs.declared.tree.Tree.{Tree}
use Rattle.json_tree.specs.declared.tree.Tree.TheVariants as v
use Rattle.json_tree.specs.declared.tree.Member.{Member}
use Rattle.json_tree.specs.Trees.{new_member}
use Rattle.json_tree.specs.Places.{text_of, value_of}
use Rattle.json_tree.specs.Members.{without_key, put_member}
use Rattle.json_tree.proofs.TreeLemmas.{text_of-Text}
use Rattle.json_tree.proofs.MemberChanges.{by_place, value_gone, value_stays, value_put, value_under_put, without-it, without-other}
use Rattle.nquads.specs.Terms.{Statement}
use Rattle.ld_rdf.specs.Flat.{at_context, at_id, property_statement}
use Rattle.ld_rdf.specs.Internal.Parts.{member_text, property_of, is_id_or_context, is_left_out, text_beside, statements_beside}
use Rattle.ld_rdf.proofs.WholeRequests.{statements_in}

beside-it : (besides key : List ℕ) (ms : List (Member Tree)) → bytes_eq key besides ≡ true → text_beside besides key ms ≡ None
beside-it besides key ms h = rw h

beside-other : (besides key : List ℕ) (ms : List (Member Tree)) → bytes_eq key besides ≡ false → text_beside besides key ms ≡ member_text key ms
beside-other besides key ms h = rw h

-- the text of a member beside the one that is left out
pub text_at-without : (besides key : List ℕ) (ms : List (Member Tree)) → member_text key (without_key besides ms) ≡ text_beside besides key ms
text_at-without besides key ms = elim (cases_Bool (bytes_eq key besides)) [
  | inl h ↦ ap (option_and_then text_of) (ap (λ (k : List ℕ). value_of k (without_key besides ms)) (bytes_eq-true key besides h) ∙ value_gone besides ms) ∙ sym (beside-it besides key ms h)
  | inr h ↦ ap (option_and_then text_of) (value_stays besides key ms (bytes_eq-differ key besides h)) ∙ sym (beside-other besides key ms h)
]

-- the context that was put in is found
pub text_at-put : (name : List ℕ) (ms : List (Member Tree)) → member_text at_context (put_member (new_member at_context (v.Text name)) ms) ≡ Some name
text_at-put name ms = ap (option_and_then text_of) (value_put (new_member at_context (v.Text name)) ms) ∙ text_of-Text name

-- to put a context in leaves `@id`
pub id_under_put : (t : Tree) (ms : List (Member Tree)) → member_text at_id (put_member (new_member at_context t) ms) ≡ member_text at_id ms
id_under_put t ms = ap (option_and_then text_of) (value_under_put at_id (new_member at_context t) ms refl)

-- ---- statements

module _ (terms : List (Member Tree)) (id : List ℕ) where
  entry_skipped : (m : Member Tree) (ms : List (Member Tree)) → is_id_or_context m.key ≡ true → statements_in terms id (m ∷ ms) ≡ statements_in terms id ms
  entry_skipped m ms h = rw h

  one_before : (m : Member Tree) (o : Option (List Statement)) → Option (List Statement)
  one_before m o = option_and_then (λ p. option_map (λ more. property_statement id p.0 p.1 ∷ more) o) (property_of terms m)

  property_first : (m : Member Tree) (ms : List (Member Tree)) → is_id_or_context m.key ≡ false → statements_in terms id (m ∷ ms) ≡ one_before m (statements_in terms id ms)
  unfolding one_before
  property_first m ms h = rw h

  left_out : (besides : List ℕ) (m : Member Tree) (ms : List (Member Tree)) → is_left_out besides m.key ≡ true → statements_beside besides terms id (m ∷ ms) ≡ statements_beside besides terms id ms
  left_out besides m ms h = rw h

  taken_first : (besides : List ℕ) (m : Member Tree) (ms : List (Member Tree)) → is_left_out besides m.key ≡ false → statements_beside besides terms id (m ∷ ms) ≡ one_before m (statements_beside besides terms id ms)
  unfolding one_before
  taken_first besides m ms h = rw h

  pub statements_in-without : (besides : List ℕ) (ms : List (Member Tree)) → statements_in terms id (without_key besides ms) ≡ statements_beside besides terms id ms
  statements_in-without besides [] = refl
  statements_in-without besides (m ∷ ms) = elim (cases_Bool (bytes_eq m.key besides)) [
    | inl h ↦
        let out : is_left_out besides m.key ≡ true = rw h in
        ap (statements_in terms id) (without-it besides m ms h) ∙ statements_in-without besides ms ∙ sym (left_out besides m ms out)
    | inr h ↦
        let as_entry : is_left_out besides m.key ≡ is_id_or_context m.key = rw h in
        ap (statements_in terms id) (without-other besides m ms h) ∙ elim (cases_Bool (is_id_or_context m.key)) [
          | inl e ↦ entry_skipped m (without_key besides ms) e ∙ statements_in-without besides ms ∙ sym (left_out besides m ms (as_entry ∙ e))
          | inr e ↦ property_first m (without_key besides ms) e ∙ ap (one_before m) (statements_in-without besides ms) ∙ sym (taken_first besides m ms (as_entry ∙ e))
        ]
  ]

  -- the context's name gives no statement
  pub statements_in-put : (t : Tree) (ms : List (Member Tree)) → statements_in terms id (put_member (new_member at_context t) ms) ≡ statements_in terms id ms
  statements_in-put t [] = refl
  statements_in-put t (n ∷ ns) =
      by_place (λ ks. statements_in terms id ks ≡ statements_in terms id (n ∷ ns)) (new_member at_context t) n ns
      (λ h. refl)
      (λ e. sym (entry_skipped n ns (ap is_id_or_context (sym (bytes_eq-true at_context n.key e)))))
      (λ h e. elim (cases_Bool (is_id_or_context n.key)) [
        | inl s ↦ entry_skipped n (put_member (new_member at_context t) ns) s ∙ statements_in-put t ns ∙ sym (entry_skipped n ns s)
        | inr s ↦ property_first n (put_member (new_member at_context t) ns) s ∙ ap (one_before n) (statements_in-put t ns) ∙ sym (property_first n ns s)
      ])

  entry_alone : (key : List ℕ) → is_left_out at_context key ≡ is_id_or_context key
  entry_alone key = elim (cases_Bool (bytes_eq key at_context)) [
    | inl h ↦ elim (cases_Bool (bytes_eq key at_id)) [ inl e ↦ rw (h, e) | inr e ↦ rw (h, e) ]
    | inr h ↦ rw h
  ]

  pub statements_beside_context : (ms : List (Member Tree)) → statements_beside at_context terms id ms ≡ statements_in terms id ms
  statements_beside_context [] = refl
  statements_beside_context (m ∷ ms) = elim (cases_Bool (is_id_or_context m.key)) [
    | inl e ↦ left_out at_context m ms (entry_alone m.key ∙ e) ∙ statements_beside_context ms ∙ sym (entry_skipped m ms e)
    | inr e ↦ taken_first at_context m ms (entry_alone m.key ∙ e) ∙ ap (one_before m) (statements_beside_context ms) ∙ sym (property_first m ms e)
  ]
