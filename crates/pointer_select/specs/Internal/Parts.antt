-- The part of a tree, as it is made: level by level, with what the pointed places go on with below
-- each element and member.
use Rattle.std.specs.Prelude.{◌≡◌, ℕ, zero, suc, List, [], ◌∷◌, ◌++◌, map, Bool, true, false, ◌==◌, ◌&&◌, ◌||◌, Option, Some, None, filter_map, if◌then◌else◌}
use Rattle.std.specs.List.{list_any}
use Rattle.std.specs.Str.{bytes_eq}
use denote.Ref.{Bor}
use Rattle.json_tree.specs.declared.tree.Tree.{Tree, out-Tree, fold-Tree}
use Rattle.json_tree.specs.declared.tree.Tree.TheOpen.{Tree-F}
use Rattle.json_tree.specs.declared.tree.Tree.TheVariants as v
use Rattle.json_tree.specs.declared.tree.Item.{Item}
use Rattle.json_tree.specs.declared.tree.Member.{Member}
use Rattle.json_tree.specs.declared.place.Step.{Step}
use Rattle.json_tree.specs.declared.place.Step.TheVariants.{Key, At}
use Rattle.json_tree.specs.Trees.{element, new_member}
use Rattle.pointer_select.specs.Kept.{is_kept_name}

-- ---- a tree restricted by a test of its places

abbrev pub Test : Type 0
Test = List Step → Bool

-- the same test of the places below a step
abbrev pub below_step : Step → Test → Test
below_step step keep place = keep (step ∷ place)

abbrev pub items_that : List (Item (Test → Tree)) → Test → List (Item Tree)
items_that [] keep = []
items_that (i ∷ is) keep =
    if keep (At i.at ∷ [])
    then element i.at (i.value (below_step (At i.at) keep)) ∷ items_that is keep
    else items_that is keep

abbrev pub members_that : List (Member (Test → Tree)) → Test → List (Member Tree)
members_that [] keep = []
members_that (m ∷ ms) keep =
    if keep (Key m.key ∷ [])
    then new_member m.key (m.value (below_step (Key m.key) keep)) ∷ members_that ms keep
    else members_that ms keep

abbrev pub restrict_step : Tree-F (Test → Tree) → Test → Tree
restrict_step Tree-F.Null keep = v.Null
restrict_step (Tree-F.Bool b) keep = v.Bool b
restrict_step (Tree-F.Whole z) keep = v.Whole z
restrict_step Tree-F.Version keep = v.Version
restrict_step (Tree-F.Text text) keep = v.Text text
restrict_step (Tree-F.List items) keep = v.List (items_that items keep)
restrict_step (Tree-F.Object members) keep = v.Object (members_that members keep)

-- a tree with those elements and members alone whose places pass
abbrev pub restricted : Tree → Test → Tree
restricted = fold-Tree (Test → Tree) restrict_step

-- ---- pointed places, one step further down

-- whether two steps are one
abbrev pub is_step : Step → Step → Bool
is_step (At i) (At j) = i == j
is_step (At i) (Key key) = false
is_step (Key key) (At j) = false
is_step (Key key) (Key name) = bytes_eq key name

-- what a place goes on with after a step, where it begins with it
abbrev pub after_step : Step → List Step → Option (List Step)
after_step step [] = None
after_step step (s ∷ steps) = if is_step s step then Some steps else None

-- what the places that begin with a step go on with
abbrev pub after_steps : Step → List (List Step) → List (List Step)
after_steps step places = filter_map (after_step step) places

abbrev pub is_none_left : {A : Type 0} → List A → Bool
is_none_left [] = true
is_none_left (x ∷ xs) = false

-- whether one of the places ends here
abbrev pub one_ends : List (List Step) → Bool
one_ends places = list_any is_none_left places

-- whether a step is to a member with a kept name
abbrev pub is_kept_step : Step → Bool
is_kept_step (Key key) = is_kept_name key
is_kept_step (At at) = false

-- whether a place is kept, for pointed places of which there is one at least
abbrev pub keeps : List (List Step) → List Step → Bool
keeps places [] = true
keeps places (s ∷ steps) = is_kept_step s || (one_ends places
    || (list_any (λ place. true) (after_steps s places) && keeps (after_steps s places) steps))

-- ---- children and what leads below each

-- the steps from a tree's root
abbrev pub steps_in : Tree-F Tree → List Step
steps_in (Tree-F.List items) = map (λ i. At i.at) items
steps_in (Tree-F.Object members) = map (λ m. Key m.key) members
steps_in t = []

abbrev pub steps_of : Tree → List Step
steps_of t = steps_in (out-Tree t)

-- the step stands at that index and at no other, or nowhere
abbrev pub StandsOnly : Step → List Step → Option ℕ → Type 0
StandsOnly step [] (Some at) = ⊥
StandsOnly step [] None = Unit {0}
StandsOnly step (s ∷ ss) None = (is_step step s ≡ false) × StandsOnly step ss None
StandsOnly step (s ∷ ss) (Some zero) = (is_step step s ≡ true) × StandsOnly step ss None
StandsOnly step (s ∷ ss) (Some (suc at)) = (is_step step s ≡ false) × StandsOnly step ss (Some at)

-- as many empty groups
abbrev pub empties : {A : Type 0} → ℕ → List (List A)
empties zero = []
empties (suc n) = [] ∷ empties n

-- to the group of each step what the place goes on with, where it begins with that step
abbrev pub with_after : List Step → List Step → List (List (List Step)) → List (List (List Step))
with_after place [] groups = groups
with_after place (s ∷ ss) [] = []
with_after place (s ∷ ss) (g ∷ groups) =
    (g ++ after_steps s (place ∷ [])) ∷ with_after place ss groups

-- slices of steps as they are now
abbrev pub slices : List (Bor (List Step)) → List (List Step)
slices ss = map (λ s. s.now) ss

abbrev pub groups_now : List (List (Bor (List Step))) → List (List (List Step))
groups_now gs = map slices gs

-- what stays of an element's value and of a member's, by what leads below it
abbrev pub item_value : List (List Step) → Item Tree → Option Tree
item_value places i =
    if is_none_left places then None else Some (restricted i.value (keeps places))

abbrev pub member_value : List (List Step) → Member Tree → Option Tree
member_value places m = if is_kept_name m.key then Some m.value
    else (if is_none_left places then None else Some (restricted m.value (keeps places)))

-- an element or a member with another value, or nothing
abbrev pub with_item_value : Item Tree → Option Tree → List (Item Tree)
with_item_value i None = []
with_item_value i (Some value) = element i.at value ∷ []

abbrev pub with_member_value : Member Tree → Option Tree → List (Member Tree)
with_member_value m None = []
with_member_value m (Some value) = new_member m.key value ∷ []

abbrev pub item_part : List (List Step) → Item Tree → List (Item Tree)
item_part places i = with_item_value i (item_value places i)

abbrev pub member_part : List (List Step) → Member Tree → List (Member Tree)
member_part places m = with_member_value m (member_value places m)

-- what stays of all
abbrev pub parts_of : {A B : Type 0} → (List (List Step) → A → List B)
    → List (List (List Step)) → List A → List B
parts_of part [] xs = []
parts_of part (g ∷ gs) [] = []
parts_of part (g ∷ gs) (x ∷ xs) = part g x ++ parts_of part gs xs
