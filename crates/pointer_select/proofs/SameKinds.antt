-- Lawful trees with the same kind at each place are one tree.
use Rattle.std.proofs.Common.{◌≡◌, ◌⊎◌, ℕ, true, false, nat_lt, List, [], ◌∷◌, map, Option, Some, None, option_map, option_and_then, refl, sym, ap, ◌∙◌, arith, inl, inr}
use Rattle.std.specs.Ordering.{is_lt}
use Rattle.std.proofs.lemmas.Bool.{cases_Bool}
use Rattle.std.proofs.lemmas.Bool.Decides.{nat_tests}
use Rattle.std.proofs.lemmas.Option.{same_Some, none-some}
use Rattle.base_types.proofs.Numbers.{nat_lt-cmp}
use Rattle.base_types.proofs.Orders.{is_before-cases}
use Rattle.base_types.proofs.Searching.{each_next-tail}
use Rattle.json_tree.specs.declared.tree.Tree.{Tree, out-Tree, roll-Tree, roll-out-Tree}
use Rattle.json_tree.specs.declared.tree.Tree.TheOpen.{Tree-F}
use Rattle.json_tree.specs.declared.tree.Item.{Item}
use Rattle.json_tree.specs.declared.tree.Member.{Member}
use Rattle.json_tree.specs.declared.place.Step.{Step}
use Rattle.json_tree.specs.declared.place.Step.TheVariants.{Key, At}
use Rattle.json_tree.specs.Levels.{Level}
use Rattle.json_tree.specs.Misplaced.{step_cmp}
use Rattle.json_tree.specs.Places.{look}
use Rattle.json_tree.specs.Trees.{is_lawful, element, new_member}
use Rattle.json_tree.proofs.Branches.{Branch, of_item, of_member, branches_in, branches_of, at_step, step_eq, child_of-branches, by_branches, StepsRise, lawful_branches}
use Rattle.json_tree.proofs.Induction.{Each}
use Rattle.json_tree.proofs.StepOrder.{step_eq-itself, step_eq-true, Precedes, precedes-transitive, ComesBefore, first_comes_before, at_step-none, at_step-first, at_step-later, before_later}
use Rattle.json_tree.proofs.SameLevels.{one_branch}
use Rattle.pointer_select.specs.Selection.{kind_in, kind_at}

-- ---- a kind and branches make up a level

abbrev index_in : Step → ℕ
index_in (At at) = at
index_in (Key key) = 0

abbrev name_in : Step → List ℕ
name_in (Key key) = key
name_in (At at) = []

abbrev item_in : Branch → Item Tree
item_in b = element (index_in b.step) b.value

abbrev member_in : Branch → Member Tree
member_in b = new_member (name_in b.step) b.value

abbrev filled : Level → List Branch → Tree-F Tree
filled Tree-F.Null bs = Tree-F.Null
filled (Tree-F.Bool b) bs = Tree-F.Bool b
filled (Tree-F.Whole z) bs = Tree-F.Whole z
filled Tree-F.Version bs = Tree-F.Version
filled (Tree-F.Text text) bs = Tree-F.Text text
filled (Tree-F.List items) bs = Tree-F.List (map item_in bs)
filled (Tree-F.Object members) bs = Tree-F.Object (map member_in bs)

items_back : (items : List (Item Tree)) → map item_in (map of_item items) ≡ items
items_back [] = refl
items_back (i ∷ is) = ap (λ rest. i ∷ rest) (items_back is)

members_back : (members : List (Member Tree)) → map member_in (map of_member members) ≡ members
members_back [] = refl
members_back (m ∷ ms) = ap (λ rest. m ∷ rest) (members_back ms)

level_back : (y : Tree-F Tree) → filled (kind_in y) (branches_in y) ≡ y
level_back Tree-F.Null = refl
level_back (Tree-F.Bool b) = refl
level_back (Tree-F.Whole z) = refl
level_back Tree-F.Version = refl
level_back (Tree-F.Text text) = refl
level_back (Tree-F.List items) = ap Tree-F.List (items_back items)
level_back (Tree-F.Object members) = ap Tree-F.Object (members_back members)

-- ---- steps in order

numbers_apart : (i j : ℕ) → Precedes (At i) (At j) ⊎ (At i ≡ At j) ⊎ Precedes (At j) (At i)
numbers_apart i j = elim (cases_Bool (nat_lt i j)) [
  | inl low ↦ inl (sym (nat_lt-cmp i j) ∙ low)
  | inr high ↦ elim (cases_Bool (nat_lt j i)) [
    | inl back ↦ inr (inr (sym (nat_lt-cmp j i) ∙ back))
    | inr same ↦ let one : i ≡ j = grind (arith, nat_tests) in inr (inl (ap At one))
  ]
]

steps_apart : (s r : Step) → Precedes s r ⊎ (s ≡ r) ⊎ Precedes r s
steps_apart (At i) (At j) = numbers_apart i j
steps_apart (At i) (Key key) = inl refl
steps_apart (Key key) (At j) = inr (inr refl)
steps_apart (Key key) (Key name) = elim (is_before-cases key name) [
  | inl low ↦ inl low
  | inr (inl same) ↦ inr (inl (ap Key same))
  | inr (inr back) ↦ inr (inr back)
]

-- ---- the induction

abbrev IsMade : Tree → Type 0
IsMade t = (u : Tree) → is_lawful t ≡ true → is_lawful u ≡ true → ((place : List Step) → kind_at place t ≡ kind_at place u) → t ≡ u

-- the kind along a place from what stands at a step
abbrev kind_from : List Step → Option Tree → Option Level
kind_from place o = option_map (λ u. kind_in (out-Tree u)) (option_and_then (look place) o)

abbrev SameFrom : List Branch → List Branch → Type 0
SameFrom bs cs = (s : Step) (place : List Step) → kind_from place (at_step s bs) ≡ kind_from place (at_step s cs)

abbrev AreLawfulEach : List Branch → Type 0
AreLawfulEach bs = Each (λ (b : Branch). is_lawful b.value ≡ true) bs

here : (b : Branch) (bs : List Branch) → at_step b.step (b ∷ bs) ≡ Some b.value
here b bs = at_step-first b bs b.step (step_eq-itself b.step)

-- where something stands at a step on one side it does on the other
missing : (b : Branch) (bs cs : List Branch) → SameFrom (b ∷ bs) cs → at_step b.step cs ≡ None → ⊥
missing b bs cs same none = none-some (kind_in (out-Tree b.value)) (sym (sym (ap (kind_from []) (here b bs)) ∙ same b.step [] ∙ ap (kind_from []) none))

before_all : (s : Step) (c : Branch) (cs : List Branch) → Precedes s c.step → StepsRise (c ∷ cs) → at_step s (c ∷ cs) ≡ None
before_all s c cs low rise = at_step-none s (c ∷ cs) (low, before_later s c.step cs low (first_comes_before c cs rise))

same_later : (b c : Branch) (bs cs : List Branch) → StepsRise (b ∷ bs) → StepsRise (c ∷ cs) → b.step ≡ c.step → SameFrom (b ∷ bs) (c ∷ cs) → SameFrom bs cs
same_later b c bs cs risen rise first same s place = elim (cases_Bool (step_eq b.step s)) [
  | inl this ↦
      let is : b.step ≡ s = step_eq-true b.step s this in
      let gone : at_step s bs ≡ None = ap (λ (r : Step). at_step r bs) (sym is) ∙ at_step-none b.step bs (first_comes_before b bs risen) in
      let lost : at_step s cs ≡ None = ap (λ (r : Step). at_step r cs) (sym is ∙ first) ∙ at_step-none c.step cs (first_comes_before c cs rise) in
      ap (kind_from place) (gone ∙ sym lost)
  | inr other ↦
      let another : step_eq c.step s ≡ false = ap (λ (r : Step). step_eq r s) (sym first) ∙ other in
      ap (kind_from place) (sym (at_step-later b bs s other)) ∙ same s place ∙ ap (kind_from place) (at_step-later c cs s another)
]

same_branches : (bs cs : List Branch) → Each (λ (b : Branch). IsMade b.value) bs → StepsRise bs → StepsRise cs → AreLawfulEach bs → AreLawfulEach cs → SameFrom bs cs → bs ≡ cs
same_branches [] [] made risen rise lawful fine same = refl
same_branches [] (c ∷ cs) made risen rise lawful fine same = absurd (missing c cs [] (λ s place. sym (same s place)) refl)
same_branches (b ∷ bs) [] made risen rise lawful fine same = absurd (missing b bs [] same refl)
same_branches (b ∷ bs) (c ∷ cs) made risen rise lawful fine same = elim (steps_apart b.step c.step) [
  | inl low ↦ absurd (missing b bs (c ∷ cs) same (before_all b.step c cs low rise))
  | inr (inr back) ↦ absurd (missing c cs (b ∷ bs) (λ s place. sym (same s place)) (before_all c.step b bs back risen))
  | inr (inl first) ↦
      let there : at_step b.step (c ∷ cs) ≡ Some c.value = at_step-first c cs b.step (ap (λ (s : Step). step_eq s b.step) (sym first) ∙ step_eq-itself b.step) in
      let values : b.value ≡ c.value = made.0 c.value lawful.0 fine.0 (λ place. ap (kind_from place) (sym (here b bs)) ∙ same b.step place ∙ ap (kind_from place) there) in
      let rest : bs ≡ cs = same_branches bs cs made.1 (each_next-tail (λ (x y : Branch). is_lt (step_cmp x.step y.step)) b bs risen) (each_next-tail (λ (x y : Branch). is_lt (step_cmp x.step y.step)) c cs rise) lawful.1 fine.1 (same_later b c bs cs risen rise first same) in
      ap (λ xs. b ∷ xs) rest ∙ ap (λ x. x ∷ cs) (one_branch b c first values)
]

same_from : (t u : Tree) → ((place : List Step) → kind_at place t ≡ kind_at place u) → SameFrom (branches_of t) (branches_of u)
same_from t u same s place =
    ap (kind_from place) (sym (child_of-branches t s)) ∙ same (s ∷ place) ∙ ap (kind_from place) (child_of-branches u s)

-- lawful trees with the same kinds at all places are one
pub one_of_kinds : (t : Tree) → IsMade t
one_of_kinds = by_branches IsMade (λ t made u lawful fine same.
    let kind : kind_in (out-Tree t) ≡ kind_in (out-Tree u) = same_Some (kind_in (out-Tree t)) (kind_in (out-Tree u)) (same []) in
    let ls = lawful_branches t lawful in
    let fs = lawful_branches u fine in
    let branches : branches_of t ≡ branches_of u = same_branches (branches_of t) (branches_of u) made ls.0 fs.0 ls.1 fs.1 (same_from t u same) in
    let opened : out-Tree t ≡ out-Tree u = sym (level_back (out-Tree t)) ∙ ap (λ y. filled y (branches_of t)) kind ∙ ap (filled (kind_in (out-Tree u))) branches ∙ level_back (out-Tree u) in
    sym (roll-out-Tree t) ∙ ap roll-Tree opened ∙ roll-out-Tree u)
