-- A test of a whole tree says of each place what stands there: that no version number does, and that
-- each whole number is in range.
use Rattle.std.proofs.Common.{◌≡◌, ◌↔◌, ℤ, Bool, true, false, not, ◌&&◌, ◌||◌, List, [], ◌∷◌, map, Some, None, option_and_then, refl, sym, ap, ◌∙◌, subst, inl, inr}
use Rattle.std.specs.List.{list_all, list_any}
use Rattle.std.proofs.lemmas.Bool.{cases_Bool, and_parts, and_from, true≢false, not-true}
use Rattle.std.proofs.lemmas.Option.{same_Some}
use Rattle.json_tree.specs.declared.tree.Tree.{Tree, out-Tree, roll-Tree, roll-out-Tree}
use Rattle.json_tree.specs.declared.tree.Tree.TheOpen.{Tree-F}
use Rattle.json_tree.specs.declared.tree.Tree.TheVariants as v
use Rattle.json_tree.specs.declared.place.Step.{Step}
use Rattle.json_tree.specs.Trees.{is_lawful, is_64_bits, is_in_range, holds_version}
use Rattle.json_tree.specs.Places.{child_of, look}
use Rattle.json_tree.specs.Misplaced.{step_cmp}
use Rattle.json_tree.proofs.Induction.{Each}
use Rattle.json_tree.proofs.Kept.{is_list, is_object, look_has}
use Rattle.json_tree.proofs.Equations.{holds_version-Null, holds_version-Bool, holds_version-Whole, holds_version-Version, holds_version-Text, holds_version-List, holds_version-Object, is_in_range-Null, is_in_range-Bool, is_in_range-Whole, is_in_range-Version, is_in_range-Text, is_in_range-List, is_in_range-Object}
use Rattle.json_tree.proofs.Branches.{Branch, of_item, of_member, branches_in, branches_of, at_step, step_eq, child_of-branches, by_branches, StepsRise, lawful_branches, is_version}
use Rattle.json_tree.proofs.StepOrder.{step_eq-itself, step_eq-true, first_comes_before, at_step-none, at_step-first, at_step-later}
use Rattle.json_tree.proofs.LeastMisplaced.{is_number, is_version-Version}
use Rattle.base_types.proofs.Searching.{each_next-tail}
use Rattle.std.specs.Ordering.{is_lt}

-- ---- a test of a tree that asks each level

-- the test of a tree is that of its level, and of the value of each branch
abbrev Asks : (Tree → Bool) → (Tree-F Tree → Bool) → Type 0
Asks test here = (t : Tree) → test t ≡ (here (out-Tree t) && list_all (λ (b : Branch). test b.value) (branches_of t))

-- at each place a level stands that passes
abbrev PassesAll : (Tree-F Tree → Bool) → Tree → Type 0
PassesAll here t = (place : List Step) (u : Tree) → look place t ≡ Some u → here (out-Tree u) ≡ true

branch_passes : (test : Tree → Bool) (bs : List Branch) (s : Step) (u : Tree) → list_all (λ (b : Branch). test b.value) bs ≡ true → at_step s bs ≡ Some u → test u ≡ true
branch_passes test [] s u all h = absurd (cc)
branch_passes test (b ∷ bs) s u all h =
    let parts = and_parts (test b.value) (list_all (λ (b : Branch). test b.value) bs) all in
    elim (cases_Bool (step_eq b.step s)) [
      | inl this ↦ subst (λ (t : Tree). test t ≡ true) (same_Some b.value u (sym (at_step-first b bs s this) ∙ h)) parts.0
      | inr other ↦ branch_passes test bs s u parts.1 (sym (at_step-later b bs s other) ∙ h)
    ]

child_passes : (test : Tree → Bool) (here : Tree-F Tree → Bool) → Asks test here → (t u : Tree) (s : Step) → test t ≡ true → child_of t s ≡ Some u → test u ≡ true
child_passes test here asks t u s p h = branch_passes test (branches_of t) s u (and_parts (here (out-Tree t)) _ (sym (asks t) ∙ p)).1 (sym (child_of-branches t s) ∙ h)

-- where a tree passes, each level in it does
passes_all : (test : Tree → Bool) (here : Tree-F Tree → Bool) → Asks test here → (t : Tree) → test t ≡ true → PassesAll here t
passes_all test here asks t p place u h = (and_parts (here (out-Tree u)) _ (sym (asks u) ∙ look_has (λ t. test t ≡ true) (child_passes test here asks) place t u p h)).0

-- behind every step levels pass
abbrev PassesBehind : (Tree-F Tree → Bool) → List Branch → Type 0
PassesBehind here bs = (s : Step) (place : List Step) (u : Tree) → option_and_then (look place) (at_step s bs) ≡ Some u → here (out-Tree u) ≡ true

passes_later : (here : Tree-F Tree → Bool) (b : Branch) (bs : List Branch) → StepsRise (b ∷ bs) → PassesBehind here (b ∷ bs) → PassesBehind here bs
passes_later here b bs rise all s place u h = elim (cases_Bool (step_eq b.step s)) [
  | inl this ↦
      let gone : at_step s bs ≡ None = ap (λ (r : Step). at_step r bs) (sym (step_eq-true b.step s this)) ∙ at_step-none b.step bs (first_comes_before b bs rise) in
      let nothing : None ≡ Some u = sym (ap (option_and_then (look place)) gone) ∙ h in
      absurd (cc)
  | inr other ↦ all s place u (ap (option_and_then (look place)) (at_step-later b bs s other) ∙ h)
]

abbrev PassesByPlaces : (Tree → Bool) → (Tree-F Tree → Bool) → Tree → Type 0
PassesByPlaces test here t = is_lawful t ≡ true → PassesAll here t → test t ≡ true

branches_pass : (test : Tree → Bool) (here : Tree-F Tree → Bool) (bs : List Branch) → Each (λ (b : Branch). PassesByPlaces test here b.value) bs → StepsRise bs → Each (λ (b : Branch). is_lawful b.value ≡ true) bs → PassesBehind here bs → list_all (λ (b : Branch). test b.value) bs ≡ true
branches_pass test here [] e rise lawful all = refl
branches_pass test here (b ∷ bs) e rise lawful all =
    let first : at_step b.step (b ∷ bs) ≡ Some b.value = at_step-first b bs b.step (step_eq-itself b.step) in
    and_from (test b.value) (list_all (λ (b : Branch). test b.value) bs)
    (e.0 lawful.0 (λ place u h. all b.step place u (ap (option_and_then (look place)) first ∙ h)))
    (branches_pass test here bs e.1 (each_next-tail (λ (x y : Branch). is_lt (step_cmp x.step y.step)) b bs rise) lawful.1 (passes_later here b bs rise all))

-- where each level in a lawful tree passes, the tree does
passes_by_places : (test : Tree → Bool) (here : Tree-F Tree → Bool) → Asks test here → (t : Tree) → PassesByPlaces test here t
passes_by_places test here asks = by_branches (PassesByPlaces test here) (λ t e lawful all.
    let parts = lawful_branches t lawful in
    asks t ∙ and_from (here (out-Tree t)) (list_all (λ (b : Branch). test b.value) (branches_of t)) (all [] t refl)
    (branches_pass test here (branches_of t) e parts.0 parts.1 (λ s place u h. all (s ∷ place) u (ap (option_and_then (look place)) (child_of-branches t s) ∙ h))))

all_map : {X : Type 0} (test : Tree → Bool) (f : X → Branch) (xs : List X) → list_all (λ x. test (f x).value) xs ≡ list_all (λ (b : Branch). test b.value) (map f xs)
all_map test f [] = refl
all_map test f (x ∷ xs) = ap (λ c. test (f x).value && c) (all_map test f xs)

opened : (test : Tree → Bool) (t : Tree) (y : Tree-F Tree) → out-Tree t ≡ y → test t ≡ test (roll-Tree y)
opened test t y e = ap test (sym (roll-out-Tree t) ∙ ap roll-Tree e)

-- ---- version numbers

abbrev has_none : Tree → Bool
has_none t = not (holds_version t)

abbrev is_another : Tree-F Tree → Bool
is_another y = not (is_version y)

not_any : {X : Type 0} (f : X → Branch) (xs : List X) → not (list_any (λ x. holds_version (f x).value) xs) ≡ list_all (λ (b : Branch). has_none b.value) (map f xs)
not_any f [] = refl
not_any f (x ∷ xs) = go (holds_version (f x).value) (not_any f xs)
  where
    go : (b : Bool) → not (list_any (λ x. holds_version (f x).value) xs) ≡ list_all (λ (b : Branch). has_none b.value) (map f xs) → not (b || list_any (λ x. holds_version (f x).value) xs) ≡ (not b && list_all (λ (b : Branch). has_none b.value) (map f xs))
    go true more = refl
    go false more = more

none_in : (t : Tree) (y : Tree-F Tree) → out-Tree t ≡ y → has_none t ≡ (is_another y && list_all (λ (b : Branch). has_none b.value) (branches_in y))
none_in t Tree-F.Null e = opened has_none t Tree-F.Null e ∙ ap has_none v.rolls-Null ∙ ap not holds_version-Null
none_in t (Tree-F.Bool b) e = opened has_none t (Tree-F.Bool b) e ∙ ap has_none (v.rolls-Bool b) ∙ ap not (holds_version-Bool b)
none_in t (Tree-F.Whole z) e = opened has_none t (Tree-F.Whole z) e ∙ ap has_none (v.rolls-Whole z) ∙ ap not (holds_version-Whole z)
none_in t Tree-F.Version e = opened has_none t Tree-F.Version e ∙ ap has_none v.rolls-Version ∙ ap not holds_version-Version
none_in t (Tree-F.Text text) e = opened has_none t (Tree-F.Text text) e ∙ ap has_none (v.rolls-Text text) ∙ ap not (holds_version-Text text)
none_in t (Tree-F.List items) e = ap has_none (is_list t items e) ∙ ap not (holds_version-List items) ∙ not_any of_item items
none_in t (Tree-F.Object members) e = ap has_none (is_object t members e) ∙ ap not (holds_version-Object members) ∙ not_any of_member members

none_asks : Asks has_none is_another
none_asks t = none_in t (out-Tree t) refl

none_stands : (t : Tree) → holds_version t ≡ false → (place : List Step) → look place t ≡ Some v.Version → ⊥
none_stands t none place h =
    let passes : is_another (out-Tree v.Version) ≡ true = passes_all has_none is_another none_asks t (ap not none) place v.Version h in
    true≢false (sym (is_version-Version v.Version refl) ∙ not-true (is_version (out-Tree v.Version)) passes)

stands_nowhere : (t : Tree) → is_lawful t ≡ true → ((place : List Step) → look place t ≡ Some v.Version → ⊥) → holds_version t ≡ false
stands_nowhere t lawful none = not-true (holds_version t) (passes_by_places has_none is_another none_asks t lawful (λ place u h. elim (cases_Bool (is_version (out-Tree u))) [
  | inl this ↦ absurd (none place (h ∙ ap Some (is_number u (out-Tree u) refl this)))
  | inr other ↦ ap not other
]))

-- a lawful tree holds no version number exactly where none stands at a place
pub no_version-places : (t : Tree) → is_lawful t ≡ true → (holds_version t ≡ false ↔ ((place : List Step) → look place t ≡ Some v.Version → ⊥))
no_version-places t lawful = (none_stands t, stands_nowhere t lawful)

-- ---- whole numbers

abbrev is_level_in_range : Tree-F Tree → Bool
is_level_in_range Tree-F.Null = true
is_level_in_range (Tree-F.Bool b) = true
is_level_in_range (Tree-F.Whole z) = is_64_bits z
is_level_in_range Tree-F.Version = true
is_level_in_range (Tree-F.Text text) = true
is_level_in_range (Tree-F.List items) = true
is_level_in_range (Tree-F.Object members) = true

and_true : (b : Bool) → b ≡ (b && true)
and_true true = refl
and_true false = refl

range_in : (t : Tree) (y : Tree-F Tree) → out-Tree t ≡ y → is_in_range t ≡ (is_level_in_range y && list_all (λ (b : Branch). is_in_range b.value) (branches_in y))
range_in t Tree-F.Null e = opened is_in_range t Tree-F.Null e ∙ ap is_in_range v.rolls-Null ∙ is_in_range-Null
range_in t (Tree-F.Bool b) e = opened is_in_range t (Tree-F.Bool b) e ∙ ap is_in_range (v.rolls-Bool b) ∙ is_in_range-Bool b
range_in t (Tree-F.Whole z) e = opened is_in_range t (Tree-F.Whole z) e ∙ ap is_in_range (v.rolls-Whole z) ∙ is_in_range-Whole z ∙ and_true (is_64_bits z)
range_in t Tree-F.Version e = opened is_in_range t Tree-F.Version e ∙ ap is_in_range v.rolls-Version ∙ is_in_range-Version
range_in t (Tree-F.Text text) e = opened is_in_range t (Tree-F.Text text) e ∙ ap is_in_range (v.rolls-Text text) ∙ is_in_range-Text text
range_in t (Tree-F.List items) e = ap is_in_range (is_list t items e) ∙ is_in_range-List items ∙ all_map is_in_range of_item items
range_in t (Tree-F.Object members) e = ap is_in_range (is_object t members e) ∙ is_in_range-Object members ∙ all_map is_in_range of_member members

range_asks : Asks is_in_range is_level_in_range
range_asks t = range_in t (out-Tree t) refl

-- each whole number at a place has 64 bits
abbrev WholesFit : Tree → Type 0
WholesFit t = (place : List Step) (z : ℤ) → look place t ≡ Some (v.Whole z) → is_64_bits z ≡ true

wholes_fit : (t : Tree) → is_in_range t ≡ true → WholesFit t
wholes_fit t fits place z h = sym (ap is_level_in_range (v.outs-Whole z)) ∙ passes_all is_in_range is_level_in_range range_asks t fits place (v.Whole z) h

level_fits : (t u : Tree) (place : List Step) (y : Tree-F Tree) → WholesFit t → look place t ≡ Some u → out-Tree u ≡ y → is_level_in_range y ≡ true
level_fits t u place Tree-F.Null fits h e = refl
level_fits t u place (Tree-F.Bool b) fits h e = refl
level_fits t u place (Tree-F.Whole z) fits h e = fits place z (h ∙ ap Some (sym (roll-out-Tree u) ∙ ap roll-Tree e ∙ v.rolls-Whole z))
level_fits t u place Tree-F.Version fits h e = refl
level_fits t u place (Tree-F.Text text) fits h e = refl
level_fits t u place (Tree-F.List items) fits h e = refl
level_fits t u place (Tree-F.Object members) fits h e = refl

-- a lawful tree is in range exactly where each whole number at a place has 64 bits
pub in_range-places : (t : Tree) → is_lawful t ≡ true → (is_in_range t ≡ true ↔ ((place : List Step) (z : ℤ) → look place t ≡ Some (v.Whole z) → is_64_bits z ≡ true))
in_range-places t lawful = (wholes_fit t, λ fits. passes_by_places is_in_range is_level_in_range range_asks t lawful (λ place u h. level_fits t u place (out-Tree u) fits h refl))
