-- Members without one of them, and with one put in: what they hold, and that they stay lawful and well formed.
use Rattle.std.proofs.Common.{◌≡◌, ◌<◌, ◌≤◌, ℕ, zero, suc, Bool, true, false, not, List, [], ◌∷◌, ◌++◌, length, take, drop, set, get_or, filter, Some, None, option_map, Ordering, Less, Equal, Greater, inl, inr, refl, sym, ap, ◌∙◌, subst, arith}
use Rattle.std.specs.List.{list_all, remove, HoldsAt}
use Rattle.std.specs.List.Sorted.{IsPartitionPoint}
use Rattle.std.specs.Str.{bytes_eq}
use Rattle.std.specs.Ordering.{nat_cmp, is_lt, is_eq, ordering_reverse}
use Rattle.std.specs.Cmp.Lexicographic.{slice_cmp}
use Rattle.std.proofs.lemmas.Bool.{cases_Bool, and_parts, and_from}
use Rattle.std.proofs.lemmas.Cmp.{nat_list_cmp_total}
use Rattle.std.proofs.lemmas.Map.Lookups.{exact_bytes}
use Rattle.base_types.proofs.Orders.{bytes_eq-cmp, bytes_eq-true, bytes_eq-same, bytes_eq-false, bytes_eq-differ, is_before-transitive, is_before-differs, is_before-other_way}
use Rattle.base_types.proofs.Searching.{each_next-tail}
use Rattle.json_tree.specs.declared.tree.Tree.{Tree, out-Tree}
use Rattle.json_tree.specs.declared.tree.Tree.TheOpen.{Tree-F}
use Rattle.json_tree.specs.declared.tree.Tree.TheVariants as v
use Rattle.json_tree.specs.declared.tree.Member.{Member}
use Rattle.json_tree.specs.declared.place.Step.TheVariants.{Key}
use Rattle.json_tree.specs.Trees.{is_before, is_lawful, is_in_range, AreLawful}
use Rattle.json_tree.specs.Places.{members_in, members_of, value_of, misplaced, is_version_key, below, or_else}
use Rattle.json_tree.specs.Internal.Misplaced.{first_in_members}
use Rattle.json_tree.specs.Members.{with_members_in, with_members, without_key, put_member}
use Rattle.json_tree.specs.WellFormed.{IsWellFormed}
use Rattle.json_tree.proofs.Rising.{NamesRise, first_is_before}
use Rattle.json_tree.proofs.TreeLemmas.{is_lawful-Object, members_of-Object, members_of-Some}
use Rattle.json_tree.proofs.Equations.{is_in_range-Object, misplaced-Object}
use Rattle.json_tree.proofs.Kept.{none_first, none_later}

-- ---- names that rise, by the first against all others

abbrev after : List ℕ → List (Member Tree) → Bool
after key ms = list_all (λ n. is_before key n.key) ms

after-earlier : (a b : List ℕ) (ms : List (Member Tree)) → is_before a b ≡ true → after b ms ≡ true → after a ms ≡ true
after-earlier a b [] h all = refl
after-earlier a b (n ∷ ns) h all =
    let p = and_parts (is_before b n.key) _ all in
    and_from (is_before a n.key) (after a ns) (is_before-transitive a b n.key h p.0) (after-earlier a b ns h p.1)

after-first : (m : Member Tree) (ms : List (Member Tree)) → NamesRise (m ∷ ms) → after m.key ms ≡ true
after-first m [] rise = refl
after-first m (n ∷ ns) rise =
    let p = and_parts (is_before m.key n.key) _ rise in
    and_from (is_before m.key n.key) (after m.key ns) p.0 (after-earlier m.key n.key ns p.0 (after-first n ns p.1))

rise-cons : (m : Member Tree) (ms : List (Member Tree)) → after m.key ms ≡ true → NamesRise ms → NamesRise (m ∷ ms)
rise-cons m [] all rise = refl
rise-cons m (n ∷ ns) all rise = and_from (is_before m.key n.key) _ (and_parts (is_before m.key n.key) _ all).0 rise

-- ---- members kept

kept-yes : (q : Member Tree → Bool) (m : Member Tree) (ms : List (Member Tree)) → q m ≡ true → filter q (m ∷ ms) ≡ m ∷ filter q ms
kept-yes q m ms h = rw h

kept-no : (q : Member Tree → Bool) (m : Member Tree) (ms : List (Member Tree)) → q m ≡ false → filter q (m ∷ ms) ≡ filter q ms
kept-no q m ms h = rw h

-- what all pass, those that are kept pass
pub all-kept : (p q : Member Tree → Bool) (ms : List (Member Tree)) → list_all p ms ≡ true → list_all p (filter q ms) ≡ true
all-kept p q [] all = refl
all-kept p q (m ∷ ms) all =
    let both = and_parts (p m) _ all in
    let later = all-kept p q ms both.1 in
    elim (cases_Bool (q m)) [
      | inl h ↦ ap (list_all p) (kept-yes q m ms h) ∙ and_from (p m) (list_all p (filter q ms)) both.0 later
      | inr h ↦ ap (list_all p) (kept-no q m ms h) ∙ later
    ]

-- their names rise
pub rise-kept : (q : Member Tree → Bool) (ms : List (Member Tree)) → NamesRise ms → NamesRise (filter q ms)
rise-kept q [] rise = refl
rise-kept q (m ∷ ms) rise =
    let later = rise-kept q ms (each_next-tail (λ a b. is_before a.key b.key) m ms rise) in
    elim (cases_Bool (q m)) [
      | inl h ↦ subst NamesRise (sym (kept-yes q m ms h)) (rise-cons m (filter q ms) (all-kept (λ n. is_before m.key n.key) q ms (after-first m ms rise)) later)
      | inr h ↦ subst NamesRise (sym (kept-no q m ms h)) later
    ]

none-kept : (q : Member Tree → Bool) (ms : List (Member Tree)) → first_in_members ms ≡ None → first_in_members (filter q ms) ≡ None
none-kept q [] none = refl
none-kept q (m ∷ ms) none =
    let here = none_first (misplaced m.value (is_version_key m.key)) (first_in_members ms) (Key m.key) none in
    let later = none-kept q ms (none_later (misplaced m.value (is_version_key m.key)) (first_in_members ms) (Key m.key) none) in
    elim (cases_Bool (q m)) [
      | inl h ↦ ap first_in_members (kept-yes q m ms h) ∙ ap (λ o. or_else (below (Key m.key) o) (first_in_members (filter q ms))) here ∙ later
      | inr h ↦ ap first_in_members (kept-no q m ms h) ∙ later
    ]

-- ---- a member put in, by where it goes

-- before the first
pub put-before : (m n : Member Tree) (ns : List (Member Tree)) → is_before m.key n.key ≡ true → put_member m (n ∷ ns) ≡ m ∷ n ∷ ns
put-before m n ns h = rw h

-- in place of the first
pub put-same : (m n : Member Tree) (ns : List (Member Tree)) → is_before m.key n.key ≡ false → bytes_eq m.key n.key ≡ true → put_member m (n ∷ ns) ≡ m ∷ ns
put-same m n ns h e = rw (h, e)

-- among the later ones
pub put-later : (m n : Member Tree) (ns : List (Member Tree)) → is_before m.key n.key ≡ false → bytes_eq m.key n.key ≡ false → put_member m (n ∷ ns) ≡ n ∷ put_member m ns
put-later m n ns h e = rw (h, e)

-- a fact on what was put in, by where it was put
pub by_place : (P : List (Member Tree) → Type 0) (m n : Member Tree) (ns : List (Member Tree)) → (is_before m.key n.key ≡ true → P (m ∷ n ∷ ns)) → (bytes_eq m.key n.key ≡ true → P (m ∷ ns)) → (is_before m.key n.key ≡ false → bytes_eq m.key n.key ≡ false → P (n ∷ put_member m ns)) → P (put_member m (n ∷ ns))
by_place P m n ns first same later = elim (cases_Bool (is_before m.key n.key)) [
  | inl h ↦ subst P (sym (put-before m n ns h)) (first h)
  | inr h ↦ elim (cases_Bool (bytes_eq m.key n.key)) [
    | inl e ↦ subst P (sym (put-same m n ns h e)) (same e)
    | inr e ↦ subst P (sym (put-later m n ns h e)) (later h e)
  ]
]

-- what it passes and all pass, all pass with it
pub all-put : (p : Member Tree → Bool) (m : Member Tree) (ms : List (Member Tree)) → p m ≡ true → list_all p ms ≡ true → list_all p (put_member m ms) ≡ true
all-put p m [] here all = and_from (p m) true here refl
all-put p m (n ∷ ns) here all =
    let both = and_parts (p n) _ all in
    by_place (λ ks. list_all p ks ≡ true) m n ns
    (λ h. and_from (p m) (list_all p (n ∷ ns)) here all)
    (λ e. and_from (p m) (list_all p ns) here both.1)
    (λ h e. and_from (p n) (list_all p (put_member m ns)) both.0 (all-put p m ns here both.1))

-- the names rise
pub rise-put : (m : Member Tree) (ms : List (Member Tree)) → NamesRise ms → NamesRise (put_member m ms)
rise-put m [] rise = refl
rise-put m (n ∷ ns) rise =
    let tail = each_next-tail (λ a b. is_before a.key b.key) n ns rise in
    by_place NamesRise m n ns
    (λ h. and_from (is_before m.key n.key) _ h rise)
    (λ e. rise-cons m ns (ap (λ (k : List ℕ). after k ns) (bytes_eq-true m.key n.key e) ∙ after-first n ns rise) tail)
    (λ h e. rise-cons n (put_member m ns) (all-put (λ k. is_before n.key k.key) m ns (is_before-other_way m.key n.key h e) (after-first n ns rise)) (rise-put m ns tail))

none-put : (m : Member Tree) (ms : List (Member Tree)) → misplaced m.value (is_version_key m.key) ≡ None → first_in_members ms ≡ None → first_in_members (put_member m ms) ≡ None
none-put m [] here none = rw here
none-put m (n ∷ ns) here none =
    let first = none_first (misplaced n.value (is_version_key n.key)) (first_in_members ns) (Key n.key) none in
    let later = none_later (misplaced n.value (is_version_key n.key)) (first_in_members ns) (Key n.key) none in
    by_place (λ ks. first_in_members ks ≡ None) m n ns
    (λ h. ap (λ o. or_else (below (Key m.key) o) (first_in_members (n ∷ ns))) here ∙ none)
    (λ e. ap (λ o. or_else (below (Key m.key) o) (first_in_members ns)) here ∙ later)
    (λ h e. ap (λ o. or_else (below (Key n.key) o) (first_in_members (put_member m ns))) first ∙ none-put m ns here later)

-- ---- lawful and well formed

-- lawful members without one of them are lawful
pub without_lawful : (key : List ℕ) (ms : List (Member Tree)) → AreLawful ms → AreLawful (without_key key ms)
without_lawful key ms l = record {
  rising = rise-kept (λ m. not (bytes_eq m.key key)) ms l.rising;
  values = all-kept (λ m. is_lawful m.value) (λ m. not (bytes_eq m.key key)) ms l.values;
}

-- and with a lawful value put in
pub put_lawful : (m : Member Tree) (ms : List (Member Tree)) → is_lawful m.value ≡ true → AreLawful ms → AreLawful (put_member m ms)
put_lawful m ms here l = record { rising = rise-put m ms l.rising; values = all-put (λ k. is_lawful k.value) m ms here l.values }

-- lawful members make a lawful object
pub lawful_object : (ms : List (Member Tree)) → AreLawful ms → is_lawful (v.Object ms) ≡ true
lawful_object ms l = is_lawful-Object ms ∙ and_from _ _ l.rising l.values

-- an object is well formed by its members
pub well_formed_object : (ms : List (Member Tree)) → AreLawful ms → list_all (λ m. is_in_range m.value) ms ≡ true → first_in_members ms ≡ None → IsWellFormed (v.Object ms)
well_formed_object ms l ranged none = record {
  lawful = lawful_object ms l;
  in_range = is_in_range-Object ms ∙ ranged;
  versions = misplaced-Object ms true ∙ none;
}

-- and its members by it
pub object_lawful : (ms : List (Member Tree)) → is_lawful (v.Object ms) ≡ true → AreLawful ms
object_lawful ms h = let p = and_parts _ _ (sym (is_lawful-Object ms) ∙ h) in record { rising = p.0; values = p.1 }

-- a well-formed object without a member is well formed
pub without_well_formed : (key : List ℕ) (ms : List (Member Tree)) → IsWellFormed (v.Object ms) → IsWellFormed (v.Object (without_key key ms))
without_well_formed key ms w =
    well_formed_object (without_key key ms) (without_lawful key ms (object_lawful ms w.lawful)) (all-kept (λ m. is_in_range m.value) (λ m. not (bytes_eq m.key key)) ms (sym (is_in_range-Object ms) ∙ w.in_range))
    (none-kept (λ m. not (bytes_eq m.key key)) ms (sym (misplaced-Object ms true) ∙ w.versions))

-- and with a well-formed value put in, where a version number is put in under `@version` alone
pub put_well_formed : (m : Member Tree) (ms : List (Member Tree)) → IsWellFormed m.value → misplaced m.value (is_version_key m.key) ≡ None → IsWellFormed (v.Object ms) → IsWellFormed (v.Object (put_member m ms))
put_well_formed m ms one placed w =
    well_formed_object (put_member m ms) (put_lawful m ms one.lawful (object_lawful ms w.lawful)) (all-put (λ k. is_in_range k.value) m ms one.in_range (sym (is_in_range-Object ms) ∙ w.in_range))
    (none-put m ms placed (sym (misplaced-Object ms true) ∙ w.versions))

-- ---- trees with their members changed

members_of_with : (change : List (Member Tree) → List (Member Tree)) (t : Tree) (y : Tree-F Tree) → members_of t ≡ members_in y → members_of (with_members_in change t y) ≡ option_map change (members_in y)
members_of_with change t (Tree-F.Null) is = is
members_of_with change t (Tree-F.Bool b) is = is
members_of_with change t (Tree-F.Whole z) is = is
members_of_with change t (Tree-F.Version) is = is
members_of_with change t (Tree-F.Text text) is = is
members_of_with change t (Tree-F.List items) is = is
members_of_with change t (Tree-F.Object members) is = members_of-Object (change members)

-- the members of what was changed are those that the change leaves
pub members_of-with_members : (change : List (Member Tree) → List (Member Tree)) (t : Tree) → members_of (with_members change t) ≡ option_map change (members_of t)
members_of-with_members change t = members_of_with change t (out-Tree t) refl

-- of an object
pub with_members-Object : (change : List (Member Tree) → List (Member Tree)) (ms : List (Member Tree)) → with_members change (v.Object ms) ≡ v.Object (change ms)
with_members-Object change ms = ap (with_members_in change (v.Object ms)) (v.outs-Object ms)

-- a change that keeps members lawful keeps any tree lawful
pub is_lawful-with_members : (change : List (Member Tree) → List (Member Tree)) (t : Tree) → is_lawful t ≡ true → ((ms : List (Member Tree)) → AreLawful ms → AreLawful (change ms)) → is_lawful (with_members change t) ≡ true
is_lawful-with_members change t lawful keeps = by_level (out-Tree t) refl
  where
    by_level : (y : Tree-F Tree) → members_of t ≡ members_in y → is_lawful (with_members_in change t y) ≡ true
    by_level (Tree-F.Null) is = lawful
    by_level (Tree-F.Bool b) is = lawful
    by_level (Tree-F.Whole z) is = lawful
    by_level (Tree-F.Version) is = lawful
    by_level (Tree-F.Text text) is = lawful
    by_level (Tree-F.List items) is = lawful
    by_level (Tree-F.Object ms) is = lawful_object (change ms) (keeps ms (object_lawful ms (ap is_lawful (sym (members_of-Some t ms is)) ∙ lawful)))

-- ---- the value at a name

-- that of the first member
pub value-this : (key : List ℕ) (m : Member Tree) (ms : List (Member Tree)) → bytes_eq m.key key ≡ true → value_of key (m ∷ ms) ≡ Some m.value
value-this key m ms h = rw h

-- or of a later one
pub value-other : (key : List ℕ) (m : Member Tree) (ms : List (Member Tree)) → bytes_eq m.key key ≡ false → value_of key (m ∷ ms) ≡ value_of key ms
value-other key m ms h = rw h

-- the first member goes
pub without-it : (besides : List ℕ) (m : Member Tree) (ms : List (Member Tree)) → bytes_eq m.key besides ≡ true → without_key besides (m ∷ ms) ≡ without_key besides ms
without-it besides m ms h = rw h

-- or it stays
pub without-other : (besides : List ℕ) (m : Member Tree) (ms : List (Member Tree)) → bytes_eq m.key besides ≡ false → without_key besides (m ∷ ms) ≡ m ∷ without_key besides ms
without-other besides m ms h = rw h

-- none stands at the name that was taken out
pub value_gone : (besides : List ℕ) (ms : List (Member Tree)) → value_of besides (without_key besides ms) ≡ None
value_gone besides [] = refl
value_gone besides (m ∷ ms) = elim (cases_Bool (bytes_eq m.key besides)) [
  | inl h ↦ ap (value_of besides) (without-it besides m ms h) ∙ value_gone besides ms
  | inr h ↦ ap (value_of besides) (without-other besides m ms h) ∙ value-other besides m (without_key besides ms) h ∙ value_gone besides ms
]

-- at any other it is as before
pub value_stays : (besides key : List ℕ) (ms : List (Member Tree)) → (key ≡ besides → ⊥) → value_of key (without_key besides ms) ≡ value_of key ms
value_stays besides key [] apart = refl
value_stays besides key (m ∷ ms) apart = elim (cases_Bool (bytes_eq m.key besides)) [
  | inl h ↦
      let other : bytes_eq m.key key ≡ false = bytes_eq-false m.key key (λ e. apart (sym e ∙ bytes_eq-true m.key besides h)) in
      ap (value_of key) (without-it besides m ms h) ∙ value_stays besides key ms apart ∙ sym (value-other key m ms other)
  | inr h ↦ ap (value_of key) (without-other besides m ms h) ∙ elim (cases_Bool (bytes_eq m.key key)) [
    | inl e ↦ value-this key m (without_key besides ms) e ∙ sym (value-this key m ms e)
    | inr e ↦ value-other key m (without_key besides ms) e ∙ value_stays besides key ms apart ∙ sym (value-other key m ms e)
  ]
]

-- where there is none, nothing is taken out
pub without_absent : (key : List ℕ) (ms : List (Member Tree)) → value_of key ms ≡ None → without_key key ms ≡ ms
without_absent key [] none = refl
without_absent key (m ∷ ms) none = elim (cases_Bool (bytes_eq m.key key)) [
  | inl h ↦ let found = value-this key m ms h in absurd (cc)
  | inr h ↦ without-other key m ms h ∙ ap (λ ns. m ∷ ns) (without_absent key ms (sym (value-other key m ms h) ∙ none))
]

-- the value that was put in stands at its name
pub value_put : (m : Member Tree) (ms : List (Member Tree)) → value_of m.key (put_member m ms) ≡ Some m.value
value_put m [] = value-this m.key m [] (bytes_eq-same m.key m.key refl)
value_put m (n ∷ ns) =
    by_place (λ ks. value_of m.key ks ≡ Some m.value) m n ns
    (λ h. value-this m.key m (n ∷ ns) (bytes_eq-same m.key m.key refl))
    (λ e. value-this m.key m ns (bytes_eq-same m.key m.key refl))
    (λ h e. value-other m.key n (put_member m ns) (bytes_eq-false n.key m.key (λ s. bytes_eq-differ m.key n.key e (sym s))) ∙ value_put m ns)

-- at any other it is as before
pub value_under_put : (key : List ℕ) (m : Member Tree) (ms : List (Member Tree)) → bytes_eq m.key key ≡ false → value_of key (put_member m ms) ≡ value_of key ms
value_under_put key m [] other = value-other key m [] other
value_under_put key m (n ∷ ns) other =
    by_place (λ ks. value_of key ks ≡ value_of key (n ∷ ns)) m n ns
    (λ h. value-other key m (n ∷ ns) other)
    (λ e. value-other key m ns other ∙ sym (value-other key n ns (ap (λ (k : List ℕ). bytes_eq k key) (sym (bytes_eq-true m.key n.key e)) ∙ other)))
    (λ h e. elim (cases_Bool (bytes_eq n.key key)) [
      | inl s ↦ value-this key n (put_member m ns) s ∙ sym (value-this key n ns s)
      | inr s ↦ value-other key n (put_member m ns) s ∙ value_under_put key m ns other ∙ sym (value-other key n ns s)
    ])

-- ---- by the index that a search gives

all_other : (key : List ℕ) (ms : List (Member Tree)) → after key ms ≡ true → without_key key ms ≡ ms
all_other key [] all = refl
all_other key (m ∷ ms) all =
    let p = and_parts (is_before key m.key) _ all in
    let differs : bytes_eq m.key key ≡ false = bytes_eq-false m.key key (λ e. bytes_eq-differ key m.key (is_before-differs key m.key p.0) (sym e)) in
    without-other key m ms differs ∙ ap (λ ns. m ∷ ns) (all_other key ms p.1)

-- the one member of a key is taken out at its index
pub without_at : (key : List ℕ) (ms : List (Member Tree)) (at : ℕ) → NamesRise ms → at < length ms → HoldsAt (λ m. slice_cmp nat_cmp m.key key ≡ Equal) ms at → without_key key ms ≡ remove ms at
without_at key [] at rise within equal = absurd (omega arith)
without_at key (m ∷ ms) zero rise within equal =
    let same : m.key ≡ key = exact_bytes m.key key (equal m) in
    without-it key m ms (bytes_eq-same m.key key same) ∙ all_other key ms (ap (λ (k : List ℕ). after k ms) (sym same) ∙ after-first m ms rise)
without_at key (m ∷ ms) (suc at) rise within equal =
    let before : is_before m.key (get_or ms at m).key ≡ true = first_is_before m ms at m rise (omega arith) in
    let same : (get_or ms at m).key ≡ key = exact_bytes (get_or ms at m).key key (equal m) in
    let differs : bytes_eq m.key key ≡ false = is_before-differs m.key key (subst (λ (k : List ℕ). is_before m.key k ≡ true) same before) in
    without-other key m ms differs ∙ ap (λ ns. m ∷ ns) (without_at key ms at (each_next-tail (λ a b. is_before a.key b.key) m ms rise) (omega arith) (λ d. equal d))

-- where a search finds none, none is taken out
pub without_nowhere : (key : List ℕ) (ms : List (Member Tree)) (at : ℕ) → IsPartitionPoint (λ m. slice_cmp nat_cmp m.key key ≡ Less) (λ m. slice_cmp nat_cmp m.key key ≡ Greater) ms at → without_key key ms ≡ ms
without_nowhere key [] at parts = refl
without_nowhere key (m ∷ ms) zero parts =
    let differs : bytes_eq m.key key ≡ false = bytes_eq-cmp m.key key ∙ ap is_eq (parts.1 0 m (omega arith) (omega arith)) in
    without-other key m ms differs ∙ ap (λ ns. m ∷ ns) (without_nowhere key ms 0 ((λ k d low high. absurd (omega arith)), (λ k d low high. parts.1 (suc k) d (omega arith) (omega arith))))
without_nowhere key (m ∷ ms) (suc at) parts =
    let differs : bytes_eq m.key key ≡ false = bytes_eq-cmp m.key key ∙ ap is_eq (parts.0 0 m (omega arith) (omega arith)) in
    without-other key m ms differs ∙ ap (λ ns. m ∷ ns) (without_nowhere key ms at ((λ k d low high. parts.0 (suc k) d (omega arith) (omega arith)), (λ k d low high. parts.1 (suc k) d (omega arith) (omega arith))))

not_before : (o : Ordering) → o ≡ Greater → is_lt o ≡ false
not_before o e = ap is_lt e

-- a member of the key takes its place
pub put_at : (m : Member Tree) (ms : List (Member Tree)) (at : ℕ) → NamesRise ms → at < length ms → HoldsAt (λ n. slice_cmp nat_cmp n.key m.key ≡ Equal) ms at → put_member m ms ≡ set ms at m
put_at m [] at rise within equal = absurd (omega arith)
put_at m (n ∷ ns) zero rise within equal =
    let same : m.key ≡ n.key = sym (exact_bytes n.key m.key (equal n)) in
    let equals : slice_cmp nat_cmp m.key n.key ≡ Equal = nat_list_cmp_total.antisymm m.key n.key ∙ ap ordering_reverse (equal n) in
    put-same m n ns (ap is_lt equals) (bytes_eq-same m.key n.key same)
put_at m (n ∷ ns) (suc at) rise within equal =
    let before : is_before n.key (get_or ns at n).key ≡ true = first_is_before n ns at n rise (omega arith) in
    let same : (get_or ns at n).key ≡ m.key = exact_bytes (get_or ns at n).key m.key (equal n) in
    let less : is_before n.key m.key ≡ true = subst (λ (k : List ℕ). is_before n.key k ≡ true) same before in
    let later = later_than m n less in
    put-later m n ns later.0 later.1 ∙ ap (λ ks. n ∷ ks) (put_at m ns at (each_next-tail (λ a b. is_before a.key b.key) n ns rise) (omega arith) (λ d. equal d))
  where
    later_than : (m n : Member Tree) → is_before n.key m.key ≡ true → (is_before m.key n.key ≡ false) × (bytes_eq m.key n.key ≡ false)
    later_than m n less = by_order (slice_cmp nat_cmp n.key m.key) refl
      where
        by_order : (o : Ordering) → slice_cmp nat_cmp n.key m.key ≡ o → (is_before m.key n.key ≡ false) × (bytes_eq m.key n.key ≡ false)
        by_order Less e = let turned : slice_cmp nat_cmp m.key n.key ≡ Greater = nat_list_cmp_total.antisymm m.key n.key ∙ ap ordering_reverse e in (ap is_lt turned, bytes_eq-cmp m.key n.key ∙ ap is_eq turned)
        by_order Equal e = let no : is_lt (slice_cmp nat_cmp n.key m.key) ≡ false = ap is_lt e in absurd (cc)
        by_order Greater e = let no : is_lt (slice_cmp nat_cmp n.key m.key) ≡ false = ap is_lt e in absurd (cc)

-- and where there is none it goes between those that come before it and those that come after
pub put_between : (m : Member Tree) (ms : List (Member Tree)) (at : ℕ) → IsPartitionPoint (λ n. slice_cmp nat_cmp n.key m.key ≡ Less) (λ n. slice_cmp nat_cmp n.key m.key ≡ Greater) ms at → at ≤ length ms → put_member m ms ≡ take at ms ++ m ∷ drop at ms
put_between m [] zero parts within = refl
put_between m [] (suc at) parts within = absurd (omega arith)
put_between m (n ∷ ns) zero parts within =
    let turned : slice_cmp nat_cmp m.key n.key ≡ Less = nat_list_cmp_total.antisymm m.key n.key ∙ ap ordering_reverse (parts.1 0 n (omega arith) (omega arith)) in
    put-before m n ns (ap is_lt turned)
put_between m (n ∷ ns) (suc at) parts within =
    let turned : slice_cmp nat_cmp m.key n.key ≡ Greater = nat_list_cmp_total.antisymm m.key n.key ∙ ap ordering_reverse (parts.0 0 n (omega arith) (omega arith)) in
    put-later m n ns (ap is_lt turned) (bytes_eq-cmp m.key n.key ∙ ap is_eq turned)
    ∙ ap (λ ks. n ∷ ks) (put_between m ns at ((λ k d low high. parts.0 (suc k) d (omega arith) (omega arith)), (λ k d low high. parts.1 (suc k) d (omega arith) (omega arith))) (omega arith))
