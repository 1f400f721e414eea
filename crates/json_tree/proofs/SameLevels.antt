-- Lawful trees with the same levels at all places are one tree.
use Rattle.std.proofs.Common.{◌≡◌, true, false, List, [], ◌∷◌, map, Option, Some, None, option_map, option_and_then, refl, sym, ap, ◌∙◌, inl, inr}
use Rattle.std.proofs.lemmas.Bool.{cases_Bool}
use Rattle.std.proofs.lemmas.Option.{same_Some}
use Rattle.json_tree.specs.declared.tree.Tree.{Tree, out-Tree, roll-Tree, roll-out-Tree}
use Rattle.json_tree.specs.declared.tree.Tree.TheOpen.{Tree-F}
use Rattle.json_tree.specs.declared.tree.Item.{Item}
use Rattle.json_tree.specs.declared.tree.Member.{Member}
use Rattle.json_tree.specs.declared.place.Step.{Step}
use Rattle.json_tree.specs.declared.place.Step.TheVariants.{Key, At}
use Rattle.json_tree.specs.Trees.{element, new_member, is_lawful}
use Rattle.json_tree.specs.Places.{look}
use Rattle.json_tree.specs.Levels.{Level, level_in, level_of, level_at}
use Rattle.json_tree.proofs.Induction.{Each}
use Rattle.json_tree.proofs.Branches.{Branch, branches_in, branches_of, of_item, of_member, at_step, step_eq, child_of-branches, by_branches, StepsRise, lawful_branches}
use Rattle.json_tree.proofs.StepOrder.{step_eq-itself, step_eq-true, first_comes_before, at_step-none, at_step-first, at_step-later}
use Rattle.base_types.proofs.Searching.{each_next-tail}
use Rattle.std.specs.Ordering.{is_lt}
use Rattle.json_tree.specs.Misplaced.{step_cmp}

-- ---- a level filled with values

abbrev steps_in : Level → List Step
steps_in Tree-F.Null = []
steps_in (Tree-F.Bool b) = []
steps_in (Tree-F.Whole z) = []
steps_in Tree-F.Version = []
steps_in (Tree-F.Text text) = []
steps_in (Tree-F.List items) = map (λ i. At i.at) items
steps_in (Tree-F.Object members) = map (λ m. Key m.key) members

abbrev fill_items : List (Item (Unit {0})) → List Branch → List (Item Tree)
fill_items [] bs = []
fill_items (i ∷ is) [] = []
fill_items (i ∷ is) (b ∷ bs) = element i.at b.value ∷ fill_items is bs

abbrev fill_members : List (Member (Unit {0})) → List Branch → List (Member Tree)
fill_members [] bs = []
fill_members (m ∷ ms) [] = []
fill_members (m ∷ ms) (b ∷ bs) = new_member m.key b.value ∷ fill_members ms bs

abbrev fill : Level → List Branch → Tree-F Tree
fill Tree-F.Null bs = Tree-F.Null
fill (Tree-F.Bool b) bs = Tree-F.Bool b
fill (Tree-F.Whole z) bs = Tree-F.Whole z
fill Tree-F.Version bs = Tree-F.Version
fill (Tree-F.Text text) bs = Tree-F.Text text
fill (Tree-F.List items) bs = Tree-F.List (fill_items items bs)
fill (Tree-F.Object members) bs = Tree-F.Object (fill_members members bs)

items_filled : (is : List (Item Tree)) → fill_items (map (λ i. record { at = i.at; value = tt }) is) (map of_item is) ≡ is
items_filled [] = refl
items_filled (i ∷ is) = ap (λ rest. i ∷ rest) (items_filled is)

members_filled : (ms : List (Member Tree)) → fill_members (map (λ m. record { key = m.key; value = tt }) ms) (map of_member ms) ≡ ms
members_filled [] = refl
members_filled (m ∷ ms) = ap (λ rest. m ∷ rest) (members_filled ms)

-- a level and the branches make up what was opened
filled : (y : Tree-F Tree) → fill (level_in y) (branches_in y) ≡ y
filled Tree-F.Null = refl
filled (Tree-F.Bool b) = refl
filled (Tree-F.Whole z) = refl
filled Tree-F.Version = refl
filled (Tree-F.Text text) = refl
filled (Tree-F.List items) = ap Tree-F.List (items_filled items)
filled (Tree-F.Object members) = ap Tree-F.Object (members_filled members)

item_steps : (is : List (Item Tree)) → map (λ (i : Item (Unit {0})). At i.at) (map (λ (i : Item Tree). record { at = i.at; value = tt }) is) ≡ map (λ (b : Branch). b.step) (map of_item is)
item_steps [] = refl
item_steps (i ∷ is) = ap (λ rest. At i.at ∷ rest) (item_steps is)

member_steps : (ms : List (Member Tree)) → map (λ (m : Member (Unit {0})). Key m.key) (map (λ (m : Member Tree). record { key = m.key; value = tt }) ms) ≡ map (λ (b : Branch). b.step) (map of_member ms)
member_steps [] = refl
member_steps (m ∷ ms) = ap (λ rest. Key m.key ∷ rest) (member_steps ms)

-- a level tells the steps
steps_told : (y : Tree-F Tree) → steps_in (level_in y) ≡ map (λ (b : Branch). b.step) (branches_in y)
steps_told Tree-F.Null = refl
steps_told (Tree-F.Bool b) = refl
steps_told (Tree-F.Whole z) = refl
steps_told Tree-F.Version = refl
steps_told (Tree-F.Text text) = refl
steps_told (Tree-F.List items) = item_steps items
steps_told (Tree-F.Object members) = member_steps members

-- ---- the induction

-- the tree is any lawful one with its levels
abbrev IsMade : Tree → Type 0
IsMade t = (u : Tree) → is_lawful t ≡ true → is_lawful u ≡ true → ((place : List Step) → level_at place t ≡ level_at place u) → t ≡ u

-- the level along a place from what stands at a step
abbrev level_from : List Step → Option Tree → Option Level
level_from place o = option_map level_of (option_and_then (look place) o)

-- behind every step there are the same levels
abbrev SameFrom : List Branch → List Branch → Type 0
SameFrom bs cs = (s : Step) (place : List Step) → level_from place (at_step s bs) ≡ level_from place (at_step s cs)

abbrev AreLawfulEach : List Branch → Type 0
AreLawfulEach bs = Each (λ (b : Branch). is_lawful b.value ≡ true) bs

same_later : (b c : Branch) (bs cs : List Branch) → StepsRise (b ∷ bs) → StepsRise (c ∷ cs) → b.step ≡ c.step → SameFrom (b ∷ bs) (c ∷ cs) → SameFrom bs cs
same_later b c bs cs risen rise first same s place = elim (cases_Bool (step_eq b.step s)) [
  | inl this ↦
      let is : b.step ≡ s = step_eq-true b.step s this in
      let gone : at_step s bs ≡ None = ap (λ (r : Step). at_step r bs) (sym is) ∙ at_step-none b.step bs (first_comes_before b bs risen) in
      let lost : at_step s cs ≡ None = ap (λ (r : Step). at_step r cs) (sym is ∙ first) ∙ at_step-none c.step cs (first_comes_before c cs rise) in
      ap (level_from place) (gone ∙ sym lost)
  | inr other ↦
      let another : step_eq c.step s ≡ false = ap (λ (r : Step). step_eq r s) (sym first) ∙ other in
      ap (level_from place) (sym (at_step-later b bs s other)) ∙ same s place ∙ ap (level_from place) (at_step-later c cs s another)
]

-- a branch is its step and its value
pub one_branch : (b c : Branch) → b.step ≡ c.step → b.value ≡ c.value → b ≡ c
one_branch b c e f = ap (λ (s : Step). let r : Branch = record { step = s; value = b.value } in r) e ∙ ap (λ (t : Tree). let r : Branch = record { step = c.step; value = t } in r) f

first_step : (s r : Step) (ss rs : List Step) → s ∷ ss ≡ r ∷ rs → (s ≡ r) × (ss ≡ rs)
first_step s r ss rs e = (cc, cc)

same_branches : (bs cs : List Branch) → Each (λ (b : Branch). IsMade b.value) bs → StepsRise bs → StepsRise cs → AreLawfulEach bs → AreLawfulEach cs → map (λ (b : Branch). b.step) bs ≡ map (λ (b : Branch). b.step) cs → SameFrom bs cs → bs ≡ cs
same_branches [] [] made risen rise lawful fine steps same = refl
same_branches [] (c ∷ cs) made risen rise lawful fine steps same = absurd (cc)
same_branches (b ∷ bs) [] made risen rise lawful fine steps same = absurd (cc)
same_branches (b ∷ bs) (c ∷ cs) made risen rise lawful fine steps same =
    let parts = first_step b.step c.step _ _ steps in
    let first : b.step ≡ c.step = parts.0 in
    let here : at_step b.step (b ∷ bs) ≡ Some b.value = at_step-first b bs b.step (step_eq-itself b.step) in
    let there : at_step b.step (c ∷ cs) ≡ Some c.value = at_step-first c cs b.step (ap (λ (s : Step). step_eq s b.step) (sym first) ∙ step_eq-itself b.step) in
    let values : b.value ≡ c.value = made.0 c.value lawful.0 fine.0 (λ place. ap (level_from place) (sym here) ∙ same b.step place ∙ ap (level_from place) there) in
    let rest : bs ≡ cs = same_branches bs cs made.1 (each_next-tail (λ (x y : Branch). is_lt (step_cmp x.step y.step)) b bs risen) (each_next-tail (λ (x y : Branch). is_lt (step_cmp x.step y.step)) c cs rise) lawful.1 fine.1 parts.1 (same_later b c bs cs risen rise first same) in
    ap (λ xs. b ∷ xs) rest ∙ ap (λ x. x ∷ cs) (one_branch b c first values)

same_from : (t u : Tree) → ((place : List Step) → level_at place t ≡ level_at place u) → SameFrom (branches_of t) (branches_of u)
same_from t u same s place =
    ap (level_from place) (sym (child_of-branches t s)) ∙ same (s ∷ place) ∙ ap (level_from place) (child_of-branches u s)

-- lawful trees with the same levels at all places are one
pub one_of_levels : (t : Tree) → IsMade t
one_of_levels = by_branches IsMade (λ t made u lawful fine same.
    let level : level_in (out-Tree t) ≡ level_in (out-Tree u) = same_Some (level_of t) (level_of u) (same []) in
    let ls = lawful_branches t lawful in
    let fs = lawful_branches u fine in
    let steps : map (λ (b : Branch). b.step) (branches_of t) ≡ map (λ (b : Branch). b.step) (branches_of u) = sym (steps_told (out-Tree t)) ∙ ap steps_in level ∙ steps_told (out-Tree u) in
    let branches : branches_of t ≡ branches_of u = same_branches (branches_of t) (branches_of u) made ls.0 fs.0 ls.1 fs.1 steps (same_from t u same) in
    let opened : out-Tree t ≡ out-Tree u = sym (filled (out-Tree t)) ∙ ap (λ y. fill y (branches_of t)) level ∙ ap (fill (level_in (out-Tree u))) branches ∙ filled (out-Tree u) in
    sym (roll-out-Tree t) ∙ ap roll-Tree opened ∙ roll-out-Tree u)
