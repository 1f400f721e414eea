-- Lists of which each element passes a test together with the next, and look-ups by name in them.
use Rattle.std.proofs.Common.{◌≡◌, ℕ, ◌<◌, zero, suc, Bool, true, false, ◌&&◌, List, [], ◌∷◌, length, get_or, Some, None, option_map, find, Less, Equal, Greater, refl, sym, ap, add-one, ◌∙◌, subst, arith, inl, inr}
use Rattle.std.specs.Str.{bytes_eq}
use Rattle.std.specs.Ordering.{nat_cmp, is_lt, is_eq, ordering_reverse}
use Rattle.std.specs.Cmp.Lexicographic.{slice_cmp}
use Rattle.std.specs.List.{AllWithin, HoldsAt}
use Rattle.std.specs.List.Sorted.{IsSortedBy}
use Rattle.std.proofs.lemmas.Cmp.{nat_list_cmp_total}
use Rattle.std.proofs.lemmas.Bool.{cases_lt, cases_Bool}
use Rattle.std.proofs.lemmas.Map.Text.{is_eq-slice_cmp}
use Rattle.std.proofs.lemmas.Slice.Eq.{bytes_eq-Decides}
use Rattle.json_tree.specs.declared.tree.Tree.{Tree}
use Rattle.json_tree.specs.declared.tree.Member.{Member}
use Rattle.json_tree.specs.Trees.{each_next, is_before}
use Rattle.json_tree.specs.Places.{value_of}
use Rattle.base_types.proofs.Orders.{is_before-transitive, is_before-differs, bytes_eq-same}
use Rattle.base_types.proofs.Searching.{each_next-tail, each_next-at, is_less}

-- `&&` taken apart and put together
pub left_of : (a b : Bool) → (a && b) ≡ true → a ≡ true
left_of true b h = refl
left_of false b h = absurd (cc)

-- both hold, so the second does
pub right_of : (a b : Bool) → (a && b) ≡ true → b ≡ true
right_of true b h = h
right_of false b h = absurd (cc)

-- ---- the order of names

-- the members' names rise
abbrev pub NamesRise : List (Member Tree) → Type 0
NamesRise members = each_next (λ m n. is_before m.key n.key) members ≡ true

-- where names rise, the first comes before each later one
pub first_is_before : (m : Member Tree) (ms : List (Member Tree)) (k : ℕ) (d : Member Tree) → NamesRise (m ∷ ms) → k < length ms → is_before m.key (get_or ms k d).key ≡ true
first_is_before m [] k d h l = absurd (omega arith)
first_is_before m (n ∷ ns) zero d h l = left_of (is_before m.key n.key) _ h
first_is_before m (n ∷ ns) (suc k) d h l =
    is_before-transitive m.key n.key _ (left_of (is_before m.key n.key) _ h) (first_is_before n ns k d (right_of (is_before m.key n.key) _ h) (omega arith))

-- the one member of a name is the first of that name
pub find_at_name : (ms : List (Member Tree)) (k : ℕ) (d : Member Tree) → NamesRise ms → k < length ms → find (λ m. bytes_eq m.key (get_or ms k d).key) ms ≡ Some (get_or ms k d)
find_at_name [] k d h l = absurd (omega arith)
find_at_name (m ∷ ms) zero d h l = rw (bytes_eq-same m.key m.key refl)
find_at_name (m ∷ ms) (suc k) d h l =
    rw (is_before-differs m.key (get_or ms k d).key (first_is_before m ms k d h (omega arith))) (find_at_name ms k d (each_next-tail _ m ms h) (omega arith))

-- where no member has the name, none is found
pub find_absent : (ms : List (Member Tree)) (key : List ℕ) → ((k : ℕ) (d : Member Tree) → k < length ms → bytes_eq (get_or ms k d).key key ≡ false) → find (λ m. bytes_eq m.key key) ms ≡ None
find_absent [] key h = refl
find_absent (m ∷ ms) key h = rw (h 0 m (omega arith)) (find_absent ms key (λ k d l. h (suc k) d (omega arith)))

-- ---- what a search by halving answers

-- names that rise are sorted
pub rises_sorted : (ms : List (Member Tree)) → NamesRise ms → IsSortedBy (λ a b. is_lt (slice_cmp nat_cmp a.key b.key)) ms
rises_sorted ms h k d low high =
    let a = (get_or ms k d).key in
    let b = (get_or ms (suc k) d).key in
    rw add-one (ap is_lt (nat_list_cmp_total.antisymm b a ∙ ap ordering_reverse (is_less _ (each_next-at (λ m n. is_before m.key n.key) ms k d h (omega arith)))))

-- where names rise, the member at which a search ends is the one found by its name
pub find_found : (ms : List (Member Tree)) (key : List ℕ) (at : ℕ) (x : Member Tree) → NamesRise ms → at < length ms → HoldsAt (λ m. slice_cmp nat_cmp m.key key ≡ Equal) ms at → find (λ m. bytes_eq m.key key) ms ≡ Some (get_or ms at x)
find_found ms key at x rise within equal =
    let same : (get_or ms at x).key ≡ key = (bytes_eq-Decides (get_or ms at x).key key).0 (sym (is_eq-slice_cmp (get_or ms at x).key key) ∙ ap is_eq (equal x)) in
    subst (λ (k : List ℕ). find (λ m. bytes_eq m.key k) ms ≡ Some (get_or ms at x)) same (find_at_name ms at x rise within)

-- where all names come before or after the one sought, none is found
pub find_nowhere : (ms : List (Member Tree)) (key : List ℕ) (at : ℕ) → AllWithin (λ m. slice_cmp nat_cmp m.key key ≡ Less) ms 0 at → AllWithin (λ m. slice_cmp nat_cmp m.key key ≡ Greater) ms at (length ms) → find (λ m. bytes_eq m.key key) ms ≡ None
find_nowhere ms key at low high =
    find_absent ms key (λ k d l. sym (is_eq-slice_cmp (get_or ms k d).key key) ∙ elim (cases_lt k at) [ inl h ↦ ap is_eq (low k d (omega arith) h) | inr h ↦ ap is_eq (high k d h l) ])

-- ---- the value at a name

-- each member's value stands at its name
pub value_of-at : (ms : List (Member Tree)) (k : ℕ) (d : Member Tree) → NamesRise ms → k < length ms → value_of (get_or ms k d).key ms ≡ Some (get_or ms k d).value
value_of-at ms k d rise within = ap (option_map (λ m. m.value)) (find_at_name ms k d rise within)

-- a member that stands among others, by its place
pub record Stands (ms : List (Member Tree)) (key : List ℕ) (value : Tree) : Type 0 where
  pub place : ℕ
  pub within : place < length ms
  pub named : (d : Member Tree) → (get_or ms place d).key ≡ key
  pub valued : (d : Member Tree) → (get_or ms place d).value ≡ value

-- a value found at a name is that of a member that stands in the list
pub value_of-Some : (ms : List (Member Tree)) (key : List ℕ) (value : Tree) → value_of key ms ≡ Some value → Stands ms key value
value_of-Some [] key value h = absurd (cc)
value_of-Some (m ∷ ms) key value h =
    elim (cases_Bool (bytes_eq m.key key)) [
      | inl this ↦
          let found : value_of key (m ∷ ms) ≡ Some m.value = rw this in
          let same : m.value ≡ value = cc in
          record { place = 0; within = omega arith; named = λ d. (bytes_eq-Decides m.key key).0 this; valued = λ d. same }
      | inr other ↦
          let later : value_of key (m ∷ ms) ≡ value_of key ms = rw other in
          let s = value_of-Some ms key value (sym later ∙ h) in
          record { place = suc s.place; within = omega (arith, s.within); named = s.named; valued = s.valued }
    ]
