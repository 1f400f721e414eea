-- Members that are put into an object, and objects with a member whose value is still to come.
use Rattle.std.proofs.Common.{◌≡◌, ◌⊎◌, ◌<◌, ◌||◌, ℕ, zero, suc, Bool, true, false, not, List, [], ◌∷◌, length, get_or, set, insert, Ordering, Less, Equal, Greater, Contains, refl, sym, ap, ◌∙◌, subst, inl, inr, arith}
use Rattle.std.specs.Str.{bytes_eq}
use Rattle.std.specs.Ordering.{nat_cmp, is_lt, is_eq, ordering_reverse}
use Rattle.std.specs.Cmp.Lexicographic.{slice_cmp}
use Rattle.std.specs.List.{list_all, list_any}
use Rattle.std.proofs.lemmas.Bool.{cases_Bool, not-true, and_from}
use Rattle.std.proofs.lemmas.Cmp.{nat_list_cmp_total}
use Rattle.std.proofs.lemmas.Map.Text.{is_eq-slice_cmp}
use Rattle.base_types.proofs.Lists.{Contains-here, Contains-there, Contains-cons_cases}
use Rattle.json_tree.specs.declared.tree.Tree.{Tree}
use Rattle.json_tree.specs.declared.tree.Tree.TheVariants as v
use Rattle.json_tree.specs.declared.tree.Member.{Member}
use Rattle.json_tree.specs.Trees.{each_next, new_member, holds_version, is_before, is_in_range, is_lawful}
use Rattle.json_tree.proofs.Rising.{NamesRise, left_of, right_of}
use Rattle.json_tree.proofs.TreeLemmas.{is_lawful-Object, is_lawful-Text}
use Rattle.json_tree.proofs.Equations.{is_in_range-Object, is_in_range-Text, holds_version-Object, holds_version-Text}
use Rattle.json_tree.specs.Members.{with_members_in, put_member, with_member}
use Rattle.vc_session.specs.Internal.Drafts.{IsObject, IsPrintable, with_value_at, place_of}
use Rattle.base_types.proofs.Orders.{is_before-differs, is_before-other_way, bytes_eq-true, bytes_eq-same}

-- ---- members put in

module _ (x : Member Tree) where
  put_before : (n : Member Tree) (ns : List (Member Tree)) → is_before x.key n.key ≡ true → put_member x (n ∷ ns) ≡ x ∷ n ∷ ns
  put_before n ns h = rw h refl

  put_instead : (n : Member Tree) (ns : List (Member Tree)) → is_before x.key n.key ≡ false → bytes_eq x.key n.key ≡ true → put_member x (n ∷ ns) ≡ x ∷ ns
  put_instead n ns h e = rw (h, e) refl

  put_after : (n : Member Tree) (ns : List (Member Tree)) → is_before x.key n.key ≡ false → bytes_eq x.key n.key ≡ false → put_member x (n ∷ ns) ≡ n ∷ put_member x ns
  put_after n ns h e = rw (h, e) refl

  rises_instead : (y : Member Tree) (ys : List (Member Tree)) → x.key ≡ y.key → NamesRise (y ∷ ys) → NamesRise (x ∷ ys)
  rises_instead y [] e h = refl
  rises_instead y (z ∷ zs) e h = rw e h

  put_behind : (n : Member Tree) (ns : List (Member Tree)) → is_before n.key x.key ≡ true → NamesRise (n ∷ ns) → NamesRise (n ∷ put_member x ns)
  put_behind n [] h r = rw h refl
  put_behind n (y ∷ ys) h r =
      elim (cases_Bool (is_before x.key y.key)) [
        | inl low ↦ subst (λ (l : List (Member Tree)). NamesRise (n ∷ l)) (sym (put_before y ys low)) (and_from (is_before n.key x.key) _ h (and_from (is_before x.key y.key) _ low (right_of (is_before n.key y.key) _ r)))
        | inr high ↦ elim (cases_Bool (bytes_eq x.key y.key)) [
          | inl same ↦ subst (λ (l : List (Member Tree)). NamesRise (n ∷ l)) (sym (put_instead y ys high same)) (and_from (is_before n.key x.key) _ h (rises_instead y ys (bytes_eq-true x.key y.key same) (right_of (is_before n.key y.key) _ r)))
          | inr other ↦ subst (λ (l : List (Member Tree)). NamesRise (n ∷ l)) (sym (put_after y ys high other)) (and_from (is_before n.key y.key) _ (left_of (is_before n.key y.key) _ r) (put_behind y ys (is_before-other_way x.key y.key high other) (right_of (is_before n.key y.key) _ r)))
        ]
      ]

  pub put_rises : (ns : List (Member Tree)) → NamesRise ns → NamesRise (put_member x ns)
  put_rises [] r = refl
  put_rises (y ∷ ys) r =
      elim (cases_Bool (is_before x.key y.key)) [
        | inl low ↦ subst NamesRise (sym (put_before y ys low)) (and_from (is_before x.key y.key) _ low r)
        | inr high ↦ elim (cases_Bool (bytes_eq x.key y.key)) [
          | inl same ↦ subst NamesRise (sym (put_instead y ys high same)) (rises_instead y ys (bytes_eq-true x.key y.key same) r)
          | inr other ↦ subst NamesRise (sym (put_after y ys high other)) (put_behind y ys (is_before-other_way x.key y.key high other) r)
        ]
      ]

  pub put_all : (p : Member Tree → Bool) (ns : List (Member Tree)) → p x ≡ true → list_all p ns ≡ true → list_all p (put_member x ns) ≡ true
  put_all p [] h r = rw h refl
  put_all p (y ∷ ys) h r =
      elim (cases_Bool (is_before x.key y.key)) [
        | inl low ↦ ap (list_all p) (put_before y ys low) ∙ and_from (p x) _ h r
        | inr high ↦ elim (cases_Bool (bytes_eq x.key y.key)) [
          | inl same ↦ ap (list_all p) (put_instead y ys high same) ∙ and_from (p x) _ h (right_of (p y) _ r)
          | inr other ↦ ap (list_all p) (put_after y ys high other) ∙ and_from (p y) _ (left_of (p y) _ r) (put_all p ys h (right_of (p y) _ r))
        ]
      ]

  pub put_contains : (m : Member Tree) (ns : List (Member Tree)) → Contains ns m → Contains (put_member x ns) m ⊎ (x.key ≡ m.key)
  put_contains m [] c = absurd (omega (arith, c.1))
  put_contains m (y ∷ ys) c =
      elim (cases_Bool (is_before x.key y.key)) [
        | inl low ↦ inl (subst (λ (l : List (Member Tree)). Contains l m) (sym (put_before y ys low)) (Contains-there x (y ∷ ys) m c))
        | inr high ↦ elim (cases_Bool (bytes_eq x.key y.key)) [
          | inl same ↦ elim (Contains-cons_cases y ys m c) [
            | inl e ↦ inr (bytes_eq-true x.key y.key same ∙ ap (λ (z : Member Tree). z.key) e)
            | inr d ↦ inl (subst (λ (l : List (Member Tree)). Contains l m) (sym (put_instead y ys high same)) (Contains-there x ys m d))
          ]
          | inr other ↦ elim (Contains-cons_cases y ys m c) [
            | inl e ↦ inl (subst (λ (l : List (Member Tree)). Contains l m) (sym (put_after y ys high other)) (subst (Contains (y ∷ put_member x ys)) e (Contains-here y (put_member x ys))))
            | inr d ↦ elim (put_contains m ys d) [
              | inl f ↦ inl (subst (λ (l : List (Member Tree)). Contains l m) (sym (put_after y ys high other)) (Contains-there y (put_member x ys) m f))
              | inr e ↦ inr e
            ]
          ]
        ]
      ]

-- ---- objects with a member more

-- a member is put into an object among its members
pub with_member-Object : (key : List ℕ) (value : Tree) (ms : List (Member Tree)) → with_member key value (v.Object ms) ≡ v.Object (put_member (new_member key value) ms)
with_member-Object key value ms = ap (with_members_in (put_member (new_member key value)) (v.Object ms)) (v.outs-Object ms)

-- a lawful value put in leaves a lawful object
pub with_member-lawful : (key : List ℕ) (value : Tree) (ms : List (Member Tree)) → is_lawful value ≡ true → is_lawful (v.Object ms) ≡ true → is_lawful (with_member key value (v.Object ms)) ≡ true
with_member-lawful key value ms one all =
    let parts = sym (is_lawful-Object ms) ∙ all in
    ap is_lawful (with_member-Object key value ms) ∙ is_lawful-Object (put_member (new_member key value) ms)
    ∙ and_from (each_next (λ m n. is_before m.key n.key) (put_member (new_member key value) ms)) _
    (put_rises (new_member key value) ms (left_of (each_next (λ m n. is_before m.key n.key) ms) _ parts))
    (put_all (new_member key value) (λ m. is_lawful m.value) ms one (right_of (each_next (λ m n. is_before m.key n.key) ms) _ parts))

with_member-in_range : (key : List ℕ) (value : Tree) (ms : List (Member Tree)) → is_in_range value ≡ true → is_in_range (v.Object ms) ≡ true → is_in_range (with_member key value (v.Object ms)) ≡ true
with_member-in_range key value ms one all =
    ap is_in_range (with_member-Object key value ms) ∙ is_in_range-Object (put_member (new_member key value) ms)
    ∙ put_all (new_member key value) (λ m. is_in_range m.value) ms one (sym (is_in_range-Object ms) ∙ all)

no_left : (a b : Bool) → (a || b) ≡ false → a ≡ false
no_left true b h = absurd (cc)
no_left false b h = refl

no_right : (a b : Bool) → (a || b) ≡ false → b ≡ false
no_right true b h = absurd (cc)
no_right false b h = h

-- none of a list where all fail
pub none_of : {X : Type 0} (p : X → Bool) (xs : List X) → list_all (λ x. not (p x)) xs ≡ true → list_any p xs ≡ false
none_of p [] h = refl
none_of p (x ∷ xs) h = rw (not-true (p x) (left_of (not (p x)) _ h)) (none_of p xs (right_of (not (p x)) _ h))

-- where none passes each fails
pub all_of : {X : Type 0} (p : X → Bool) (xs : List X) → list_any p xs ≡ false → list_all (λ x. not (p x)) xs ≡ true
all_of p [] h = refl
all_of p (x ∷ xs) h = and_from (not (p x)) _ (ap not (no_left (p x) _ h)) (all_of p xs (no_right (p x) _ h))

with_member-whole : (key : List ℕ) (value : Tree) (ms : List (Member Tree)) → holds_version value ≡ false → holds_version (v.Object ms) ≡ false → holds_version (with_member key value (v.Object ms)) ≡ false
with_member-whole key value ms one all =
    ap holds_version (with_member-Object key value ms) ∙ holds_version-Object (put_member (new_member key value) ms)
    ∙ none_of (λ m. holds_version m.value) (put_member (new_member key value) ms)
    (put_all (new_member key value) (λ m. not (holds_version m.value)) ms (ap not one) (all_of (λ m. holds_version m.value) ms (sym (holds_version-Object ms) ∙ all)))

-- a value that is printed as it is, put in, leaves such an object
pub with_member-printable : (key : List ℕ) (value t : Tree) → IsPrintable value → IsObject t → IsPrintable t → IsPrintable (with_member key value t)
with_member-printable key value t one o all =
    let seen : IsPrintable (v.Object o.members) = subst IsPrintable o.is all in
    subst (λ (u : Tree). IsPrintable (with_member key value u)) (sym o.is) (let p : IsPrintable (with_member key value (v.Object o.members)) = record {
      lawful = with_member-lawful key value o.members one.lawful seen.lawful;
      in_range = with_member-in_range key value o.members one.in_range seen.in_range;
      whole = with_member-whole key value o.members one.whole seen.whole;
    } in p)

-- a text is printed as it is
pub text_printable : (text : List ℕ) → IsPrintable (v.Text text)
text_printable text = record { lawful = is_lawful-Text text; in_range = is_in_range-Text text; whole = holds_version-Text text }

-- ---- places that are with_value_at

-- another value at an index
pub value_set : (ms : List (Member Tree)) (at : ℕ) (value : Tree) (d : Member Tree) → at < length ms → set ms at (new_member (get_or ms at d).key value) ≡ with_value_at ms at value
value_set [] at value d h = absurd (omega arith)
value_set (m ∷ ms) zero value d h = refl
value_set (m ∷ ms) (suc at) value d h = ap (λ (l : List (Member Tree)). m ∷ l) (value_set ms at value d (omega arith))

module _ (key : List ℕ) (value : Tree) where
  stops : (m : Member Tree) (ms : List (Member Tree)) → (is_before key m.key || bytes_eq key m.key) ≡ true → place_of key (m ∷ ms) ≡ 0
  stops m ms h = rw h refl

  goes : (m : Member Tree) (ms : List (Member Tree)) → (is_before key m.key || bytes_eq key m.key) ≡ false → place_of key (m ∷ ms) ≡ suc (place_of key ms)
  goes m ms h = rw h refl

  pub fill_own : (ms : List (Member Tree)) (d : Member Tree) → place_of key ms < length ms → bytes_eq (get_or ms (place_of key ms) d).key key ≡ true → with_value_at ms (place_of key ms) value ≡ put_member (new_member key value) ms
  fill_own [] d h e = absurd (omega arith)
  fill_own (m ∷ ms) d h e =
      elim (cases_Bool (is_before key m.key)) [
        | inl low ↦
            let here : place_of key (m ∷ ms) ≡ 0 = stops m ms (rw low refl) in
            let found : bytes_eq m.key key ≡ true = rw here at e in
            let same : m.key ≡ key = bytes_eq-true m.key key found in
            let differs : bytes_eq key m.key ≡ false = is_before-differs key m.key low in
            let equal : bytes_eq key m.key ≡ true = bytes_eq-same key m.key (sym same) in
            absurd (cc)
        | inr high ↦ elim (cases_Bool (bytes_eq key m.key)) [
          | inl same ↦
              let here : place_of key (m ∷ ms) ≡ 0 = stops m ms (rw (high, same) refl) in
              let there : m.key ≡ key = sym (bytes_eq-true key m.key same) in
              rw (here, put_instead (new_member key value) m ms high same) (ap (λ (k : List ℕ). new_member k value ∷ ms) there)
          | inr other ↦
              let on : place_of key (m ∷ ms) ≡ suc (place_of key ms) = goes m ms (rw (high, other) refl) in
              let later : bytes_eq (get_or ms (place_of key ms) d).key key ≡ true = rw on at e in
              let within : place_of key ms < length ms = omega (arith, on, h) in
              rw (on, put_after (new_member key value) m ms high other) (ap (λ (l : List (Member Tree)). m ∷ l) (fill_own ms d within later))
        ]
      ]

  pub fill_new : (w : Tree) (ms : List (Member Tree)) (d : Member Tree) → (place_of key ms ≡ length ms) ⊎ (bytes_eq (get_or ms (place_of key ms) d).key key ≡ false) → with_value_at (insert ms (place_of key ms) (new_member key w)) (place_of key ms) value ≡ put_member (new_member key value) ms
  fill_new w [] d h = refl
  fill_new w (m ∷ ms) d h =
      elim (cases_Bool (is_before key m.key)) [
        | inl low ↦
            let here : place_of key (m ∷ ms) ≡ 0 = stops m ms (rw low refl) in
            rw (here, put_before (new_member key value) m ms low) refl
        | inr high ↦ elim (cases_Bool (bytes_eq key m.key)) [
          | inl same ↦
              let here : place_of key (m ∷ ms) ≡ 0 = stops m ms (rw (high, same) refl) in
              let there : bytes_eq m.key key ≡ true = bytes_eq-same m.key key (sym (bytes_eq-true key m.key same)) in
              elim h [ inl e ↦ absurd (omega (arith, here, e)) | inr e ↦ let unlike : bytes_eq m.key key ≡ false = rw here at e in absurd (cc) ]
          | inr other ↦
              let on : place_of key (m ∷ ms) ≡ suc (place_of key ms) = goes m ms (rw (high, other) refl) in
              let rest : (place_of key ms ≡ length ms) ⊎ (bytes_eq (get_or ms (place_of key ms) d).key key ≡ false) = elim h [ inl e ↦ inl (omega (arith, on, e)) | inr e ↦ inr (rw on at e) ] in
              rw (on, put_after (new_member key value) m ms high other) (ap (λ (l : List (Member Tree)). m ∷ l) (fill_new w ms d rest))
        ]
      ]
