-- A tree by its branches: the steps down from its root, each with the value to which it leads.
use Rattle.std.proofs.Common.{◌≡◌, Bool, true, false, ◌==◌, nat_lt, List, [], ◌∷◌, map, Option, Some, None, option_map, find, if◌then◌else◌, refl, sym, ap, ◌∙◌, subst}
use Rattle.std.specs.Str.{bytes_eq}
use Rattle.std.specs.Ordering.{is_lt, nat_cmp}
use Rattle.std.proofs.lemmas.Bool.{and_parts}
use Rattle.json_tree.specs.declared.tree.Tree.{Tree, out-Tree, roll-Tree, roll-out-Tree}
use Rattle.json_tree.specs.declared.tree.Tree.TheOpen.{Tree-F}
use Rattle.json_tree.specs.declared.tree.Tree.TheVariants as v
use Rattle.json_tree.specs.declared.tree.Item.{Item}
use Rattle.json_tree.specs.declared.tree.Member.{Member}
use Rattle.json_tree.specs.declared.place.Step.{Step}
use Rattle.json_tree.specs.declared.place.Step.TheVariants.{Key, At}
use Rattle.json_tree.specs.Trees.{each_next, is_lawful}
use Rattle.json_tree.specs.Places.{child_in, child_of, first_of, below, misplaced}
use Rattle.json_tree.specs.Misplaced.{step_cmp, is_version_step}
use Rattle.json_tree.proofs.Induction.{Each, by_cases}
use Rattle.json_tree.proofs.Kept.{is_list, is_object, lawful_items, lawful_values}
use Rattle.json_tree.proofs.TreeLemmas.{is_lawful-List, is_lawful-Object}
use Rattle.json_tree.proofs.Equations.{misplaced-Null, misplaced-Bool, misplaced-Whole, misplaced-Version, misplaced-Text, misplaced-List, misplaced-Object}
use Rattle.base_types.proofs.Lists.{map-map}
use Rattle.base_types.proofs.Numbers.{nat_lt-cmp}
use Rattle.base_types.proofs.Searching.{each_next-map}

-- one step down, and what stands there
pub record Branch : Type 0 where
  pub step : Step
  pub value : Tree

-- an element as a branch
abbrev pub of_item : Item Tree → Branch
of_item i = record { step = At i.at; value = i.value }

-- a member as a branch
abbrev pub of_member : Member Tree → Branch
of_member m = record { step = Key m.key; value = m.value }

-- the branches of one level
abbrev pub branches_in : Tree-F Tree → List Branch
branches_in Tree-F.Null = []
branches_in (Tree-F.Bool b) = []
branches_in (Tree-F.Whole z) = []
branches_in Tree-F.Version = []
branches_in (Tree-F.Text text) = []
branches_in (Tree-F.List items) = map of_item items
branches_in (Tree-F.Object members) = map of_member members

-- the branches from a tree's root
abbrev pub branches_of : Tree → List Branch
branches_of t = branches_in (out-Tree t)

-- whether two steps are one
abbrev pub step_eq : Step → Step → Bool
step_eq (At i) (At j) = i == j
step_eq (At i) (Key key) = false
step_eq (Key key) (At j) = false
step_eq (Key key) (Key name) = bytes_eq key name

-- what stands at a step among branches
abbrev pub at_step : Step → List Branch → Option Tree
at_step s bs = option_map (λ b. b.value) (find (λ b. step_eq b.step s) bs)

-- ---- what stands one step below

find_map : {X : Type 0} (f : X → Branch) (s : Step) (xs : List X) → at_step s (map f xs) ≡ option_map (λ x. (f x).value) (find (λ x. step_eq (f x).step s) xs)
find_map f s [] = refl
find_map f s (x ∷ xs) = go (step_eq (f x).step s) (find_map f s xs)
  where
    go : (b : Bool) → option_map (λ b. b.value) (find (λ b. step_eq b.step s) (map f xs)) ≡ option_map (λ x. (f x).value) (find (λ x. step_eq (f x).step s) xs) → option_map (λ b. b.value) (if b then Some (f x) else find (λ b. step_eq b.step s) (map f xs)) ≡ option_map (λ x. (f x).value) (if b then Some x else find (λ x. step_eq (f x).step s) xs)
    go true more = refl
    go false more = more

find_none : {X Y : Type 0} (f : X → Y) (xs : List X) → option_map f (find (λ x. false) xs) ≡ None
find_none f [] = refl
find_none f (x ∷ xs) = find_none f xs

child_in-branches : (y : Tree-F Tree) (s : Step) → child_in y s ≡ at_step s (branches_in y)
child_in-branches Tree-F.Null s = refl
child_in-branches (Tree-F.Bool b) s = refl
child_in-branches (Tree-F.Whole z) s = refl
child_in-branches Tree-F.Version s = refl
child_in-branches (Tree-F.Text text) s = refl
child_in-branches (Tree-F.List items) (At at) = sym (find_map of_item (At at) items)
child_in-branches (Tree-F.List items) (Key key) = sym (find_map of_item (Key key) items ∙ find_none (λ i. i.value) items)
child_in-branches (Tree-F.Object members) (Key key) = sym (find_map of_member (Key key) members)
child_in-branches (Tree-F.Object members) (At at) = sym (find_map of_member (At at) members ∙ find_none (λ m. m.value) members)

-- what stands one step below is what stands there among the branches
pub child_of-branches : (t : Tree) (s : Step) → child_of t s ≡ at_step s (branches_of t)
child_of-branches t s = child_in-branches (out-Tree t) s

-- ---- induction

each_map : {X : Type 0} (P : Tree → Type 0) (f : X → Branch) (xs : List X) → Each (λ x. P (f x).value) xs → Each (λ (b : Branch). P b.value) (map f xs)
each_map P f [] e = tt
each_map P f (x ∷ xs) e = (e.0, each_map P f xs e.1)

at_level : {x y : Tree-F Tree} (P : Tree → Type 0) → x ≡ y → Each (λ (b : Branch). P b.value) (branches_in y) → Each (λ (b : Branch). P b.value) (branches_in x)
at_level P is e = subst (λ y. Each (λ (b : Branch). P b.value) (branches_in y)) (sym is) e

-- P holds of every tree where it follows from P of each branch's value
pub by_branches : (P : Tree → Type 0) → ((t : Tree) → Each (λ (b : Branch). P b.value) (branches_of t) → P t) → (t : Tree) → P t
by_branches P from = by_cases P record {
  null = from v.Null (at_level P v.outs-Null tt);
  boolean = λ b. from (v.Bool b) (at_level P (v.outs-Bool b) tt);
  whole = λ z. from (v.Whole z) (at_level P (v.outs-Whole z) tt);
  version = from v.Version (at_level P v.outs-Version tt);
  text = λ s. from (v.Text s) (at_level P (v.outs-Text s) tt);
  items = λ is e. from (v.List is) (at_level P (v.outs-List is) (each_map P of_item is e));
  members = λ ms e. from (v.Object ms) (at_level P (v.outs-Object ms) (each_map P of_member ms e));
}

-- ---- lawful

-- each branch's step comes before the next one's
abbrev pub StepsRise : List Branch → Type 0
StepsRise bs = each_next (λ b c. is_lt (step_cmp b.step c.step)) bs ≡ true

each_next-same : {X : Type 0} (f g : X → X → Bool) (xs : List X) → ((x y : X) → f x y ≡ g x y) → each_next f xs ≡ each_next g xs
each_next-same f g [] same = refl
each_next-same f g (x ∷ []) same = refl
each_next-same f g (x ∷ y ∷ ys) same = rw (same x y, each_next-same f g (y ∷ ys) same)

lawful_in : (t : Tree) (y : Tree-F Tree) → out-Tree t ≡ y → is_lawful t ≡ true → StepsRise (branches_in y) × Each (λ (b : Branch). is_lawful b.value ≡ true) (branches_in y)
lawful_in t Tree-F.Null e h = (refl, tt)
lawful_in t (Tree-F.Bool b) e h = (refl, tt)
lawful_in t (Tree-F.Whole z) e h = (refl, tt)
lawful_in t Tree-F.Version e h = (refl, tt)
lawful_in t (Tree-F.Text text) e h = (refl, tt)
lawful_in t (Tree-F.List items) e h =
    let whole : is_lawful (v.List items) ≡ true = sym (ap is_lawful (is_list t items e)) ∙ h in
    let rising = (and_parts _ _ (sym (is_lawful-List items) ∙ whole)).0 in (
      each_next-map of_item (λ b c. is_lt (step_cmp b.step c.step)) items ∙ each_next-same (λ i j. is_lt (nat_cmp i.at j.at)) (λ i j. nat_lt i.at j.at) items (λ i j. sym (nat_lt-cmp i.at j.at)) ∙ rising,
      each_map (λ t. is_lawful t ≡ true) of_item items (lawful_items items whole),
    )
lawful_in t (Tree-F.Object members) e h =
    let whole : is_lawful (v.Object members) ≡ true = sym (ap is_lawful (is_object t members e)) ∙ h in
    let rising = (and_parts _ _ (sym (is_lawful-Object members) ∙ whole)).0 in (
      each_next-map of_member (λ b c. is_lt (step_cmp b.step c.step)) members ∙ rising,
      each_map (λ t. is_lawful t ≡ true) of_member members (lawful_values members whole),
    )

-- the steps of a lawful tree's branches rise, and their values are lawful
pub lawful_branches : (t : Tree) → is_lawful t ≡ true → StepsRise (branches_of t) × Each (λ (b : Branch). is_lawful b.value ≡ true) (branches_of t)
lawful_branches t = lawful_in t (out-Tree t) refl

-- ---- misplaced

-- the first misplaced version number below branches
abbrev pub first_below : List Branch → Option (List Step)
first_below bs = first_of (map (λ b. below b.step (misplaced b.value (is_version_step b.step))) bs)

-- whether the tree is the version number
abbrev pub is_version : Tree-F Tree → Bool
is_version Tree-F.Null = false
is_version (Tree-F.Bool b) = false
is_version (Tree-F.Whole z) = false
is_version Tree-F.Version = true
is_version (Tree-F.Text text) = false
is_version (Tree-F.List items) = false
is_version (Tree-F.Object members) = false

misplaced_in : (t : Tree) (named : Bool) (y : Tree-F Tree) → out-Tree t ≡ y → misplaced t named ≡ (if is_version y then (if named then None else Some []) else first_below (branches_in y))
misplaced_in t named Tree-F.Null e = ap (λ u. misplaced u named) (sym (roll-out-Tree t) ∙ ap roll-Tree e ∙ v.rolls-Null) ∙ misplaced-Null named
misplaced_in t named (Tree-F.Bool b) e = ap (λ u. misplaced u named) (sym (roll-out-Tree t) ∙ ap roll-Tree e ∙ v.rolls-Bool b) ∙ misplaced-Bool b named
misplaced_in t named (Tree-F.Whole z) e = ap (λ u. misplaced u named) (sym (roll-out-Tree t) ∙ ap roll-Tree e ∙ v.rolls-Whole z) ∙ misplaced-Whole z named
misplaced_in t named Tree-F.Version e = ap (λ u. misplaced u named) (sym (roll-out-Tree t) ∙ ap roll-Tree e ∙ v.rolls-Version) ∙ misplaced-Version named
misplaced_in t named (Tree-F.Text text) e = ap (λ u. misplaced u named) (sym (roll-out-Tree t) ∙ ap roll-Tree e ∙ v.rolls-Text text) ∙ misplaced-Text text named
misplaced_in t named (Tree-F.List items) e =
    ap (λ u. misplaced u named) (is_list t items e) ∙ misplaced-List items named
    ∙ ap first_of (sym (map-map (λ (b : Branch). below b.step (misplaced b.value (is_version_step b.step))) of_item items))
misplaced_in t named (Tree-F.Object members) e =
    ap (λ u. misplaced u named) (is_object t members e) ∙ misplaced-Object members named
    ∙ ap first_of (sym (map-map (λ (b : Branch). below b.step (misplaced b.value (is_version_step b.step))) of_member members))

-- a version number is misplaced itself unless it is named, and in any other tree it is the first one below
pub misplaced-branches : (t : Tree) (named : Bool) → misplaced t named ≡ (if is_version (out-Tree t) then (if named then None else Some []) else first_below (branches_of t))
misplaced-branches t named = misplaced_in t named (out-Tree t) refl
