-- The first misplaced version number stands at the least of the places where one is misplaced.
use Rattle.std.proofs.Common.{◌≡◌, ◌⊎◌, Bool, true, false, List, [], ◌∷◌, Option, Some, None, option_and_then, if◌then◌else◌, Less, refl, sym, ap, ◌∙◌, subst, inl, inr}
use Rattle.std.specs.Ordering.{is_lt, ordering_then}
use Rattle.std.proofs.lemmas.Bool.{cases_Bool, true≢false}
use Rattle.std.proofs.lemmas.Option.{same_Some, none-some, option_and_then_some}
use Rattle.json_tree.specs.declared.tree.Tree.{Tree, out-Tree, roll-Tree, roll-out-Tree}
use Rattle.json_tree.specs.declared.tree.Tree.TheOpen.{Tree-F}
use Rattle.json_tree.specs.declared.tree.Tree.TheVariants as v
use Rattle.json_tree.specs.declared.place.Step.{Step}
use Rattle.json_tree.specs.Trees.{is_lawful}
use Rattle.json_tree.specs.Places.{child_of, look, or_else, below, misplaced, first_misplaced}
use Rattle.json_tree.specs.Misplaced.{step_cmp, place_cmp, is_version_step, is_version_place, IsMisplaced}
use Rattle.json_tree.proofs.Induction.{Each}
use Rattle.json_tree.proofs.Kept.{none_first, none_later}
use Rattle.json_tree.proofs.Branches.{Branch, branches_in, branches_of, at_step, step_eq, child_of-branches, by_branches, StepsRise, lawful_branches, first_below, is_version, misplaced-branches}
use Rattle.json_tree.proofs.StepOrder.{step_eq-itself, step_eq-true, step_cmp-itself, Precedes, precedes-differs, first_comes_before, at_step-first, at_step-later, found_after}
use Rattle.base_types.proofs.Searching.{each_next-tail, is_less}

-- ---- the name under which a value stands

-- whether a value at a place stands under `@version`, where what the place begins at does or does not
abbrev pub named_at : Bool → List Step → Bool
named_at named [] = named
named_at named (s ∷ ss) = named_at (is_version_step s) ss

-- from the root it is the last step's name
pub named_at-root : (place : List Step) → is_version_place place ≡ named_at false place
named_at-root [] = refl
named_at-root (s ∷ []) = refl
named_at-root (s ∷ r ∷ rs) = named_at-root (r ∷ rs)

-- a misplaced version number, below what stands under a name
pub record MisplacedUnder (named : Bool) (t : Tree) (place : List Step) : Type 0 where
  pub stands : look place t ≡ Some v.Version
  pub not_named : named_at named place ≡ false

-- ---- the version number itself

-- a tree that opens as the version number is it
pub is_number : (t : Tree) (y : Tree-F Tree) → out-Tree t ≡ y → is_version y ≡ true → t ≡ v.Version
is_number t Tree-F.Null e h = absurd (cc)
is_number t (Tree-F.Bool b) e h = absurd (cc)
is_number t (Tree-F.Whole z) e h = absurd (cc)
is_number t Tree-F.Version e h = sym (roll-out-Tree t) ∙ ap roll-Tree e ∙ v.rolls-Version
is_number t (Tree-F.Text text) e h = absurd (cc)
is_number t (Tree-F.List items) e h = absurd (cc)
is_number t (Tree-F.Object members) e h = absurd (cc)

no_branches : (y : Tree-F Tree) → is_version y ≡ true → branches_in y ≡ []
no_branches Tree-F.Null h = refl
no_branches (Tree-F.Bool b) h = refl
no_branches (Tree-F.Whole z) h = refl
no_branches Tree-F.Version h = refl
no_branches (Tree-F.Text text) h = refl
no_branches (Tree-F.List items) h = absurd (cc)
no_branches (Tree-F.Object members) h = absurd (cc)

-- a tree that is the version number opens as it
pub is_version-Version : (t : Tree) → t ≡ v.Version → is_version (out-Tree t) ≡ true
is_version-Version t is = ap (λ u. is_version (out-Tree u)) is ∙ ap is_version v.outs-Version

-- in the version number, and in another tree
misplaced-itself : (t : Tree) (named : Bool) → is_version (out-Tree t) ≡ true → misplaced t named ≡ (if named then None else Some [])
misplaced-itself t named h = misplaced-branches t named ∙ ap (λ (b : Bool). if b then (if named then None else Some []) else first_below (branches_of t)) h

misplaced-below : (t : Tree) (named : Bool) → is_version (out-Tree t) ≡ false → misplaced t named ≡ first_below (branches_of t)
misplaced-below t named h = misplaced-branches t named ∙ ap (λ (b : Bool). if b then (if named then None else Some []) else first_below (branches_of t)) h

-- ---- none

-- where no first one is misplaced, none is
abbrev HasNone : Tree → Type 0
HasNone t = (named : Bool) (place : List Step) → misplaced t named ≡ None → MisplacedUnder named t place → ⊥

none_below : (bs : List Branch) (s : Step) (ss : List Step) (u : Tree) → Each (λ (b : Branch). HasNone b.value) bs → first_below bs ≡ None → at_step s bs ≡ Some u → MisplacedUnder (is_version_step s) u ss → ⊥
none_below [] s ss u none first there m = absurd (cc)
none_below (b ∷ bs) s ss u none first there m = elim (cases_Bool (step_eq b.step s)) [
  | inl this ↦
      let is : b.step ≡ s = step_eq-true b.step s this in
      let same : u ≡ b.value = same_Some u b.value (sym there ∙ at_step-first b bs s this) in
      let here : misplaced b.value (is_version_step b.step) ≡ None = none_first (misplaced b.value (is_version_step b.step)) (first_below bs) b.step first in
      none.0 (is_version_step s) ss (ap (λ (r : Step). misplaced b.value (is_version_step r)) (sym is) ∙ here) (subst (λ (t : Tree). MisplacedUnder (is_version_step s) t ss) same m)
  | inr other ↦
      none_below bs s ss u none.1 (none_later (misplaced b.value (is_version_step b.step)) (first_below bs) b.step first) (sym (at_step-later b bs s other) ∙ there) m
]

-- what is misplaced behind a first step is misplaced in what stands there
pub record BehindStep (bs : List Branch) (s : Step) (ss : List Step) : Type 0 where
  pub value : Tree
  pub there : at_step s bs ≡ Some value
  pub behind : MisplacedUnder (is_version_step s) value ss

behind_step : (t : Tree) (named : Bool) (s : Step) (ss : List Step) → MisplacedUnder named t (s ∷ ss) → BehindStep (branches_of t) s ss
behind_step t named s ss m = option_and_then_some (look ss) (child_of t s) v.Version m.stands (λ x there further.
    record { value = x; there = sym (child_of-branches t s) ∙ there; behind = record { stands = further; not_named = m.not_named } })

no_branch_there : (bs : List Branch) (s : Step) (ss : List Step) → bs ≡ [] → BehindStep bs s ss → ⊥
no_branch_there bs s ss none b = let there : at_step s [] ≡ Some b.value = ap (at_step s) (sym none) ∙ b.there in absurd (cc)

-- the version number has nothing below, and at the root it is misplaced unless it is named
none_itself : (t : Tree) (named : Bool) (place : List Step) → is_version (out-Tree t) ≡ true → misplaced t named ≡ None → MisplacedUnder named t place → ⊥
none_itself t true [] h none m = absurd (cc (m.not_named))
none_itself t false [] h none m = none-some [] (sym none ∙ misplaced-itself t false h)
none_itself t named (s ∷ ss) h none m = no_branch_there (branches_of t) s ss (no_branches (out-Tree t) h) (behind_step t named s ss m)

none_under : (t : Tree) (named : Bool) (place : List Step) → Each (λ (b : Branch). HasNone b.value) (branches_of t) → is_version (out-Tree t) ≡ false → misplaced t named ≡ None → MisplacedUnder named t place → ⊥
none_under t named [] e h none m = true≢false (sym (is_version-Version t (same_Some t v.Version m.stands)) ∙ h)
none_under t named (s ∷ ss) e h none m =
    let b = behind_step t named s ss m in
    none_below (branches_of t) s ss b.value e (sym (misplaced-below t named h) ∙ none) b.there b.behind

-- where there is no first one, none is misplaced, under whatever name the tree stands
pub none_misplaced : (t : Tree) → HasNone t
none_misplaced = by_branches HasNone (λ t e named place none m. elim (cases_Bool (is_version (out-Tree t))) [
  | inl this ↦ none_itself t named place this none m
  | inr other ↦ none_under t named place e other none m
])

-- ---- the least

-- the other place is this one, or comes after it
abbrev IsUpto : List Step → List Step → Type 0
IsUpto place other = (other ≡ place) ⊎ (place_cmp place other ≡ Less)

-- a version number is misplaced at the place, and at none before it
pub record IsLeast (named : Bool) (t : Tree) (place : List Step) : Type 0 where
  pub misplaced : MisplacedUnder named t place
  pub least : (other : List Step) → MisplacedUnder named t other → IsUpto place other

abbrev FindsLeast : Tree → Type 0
FindsLeast t = (named : Bool) (place : List Step) → is_lawful t ≡ true → misplaced t named ≡ Some place → IsLeast named t place

-- the same of branches
pub record LeastBelow (bs : List Branch) (place : List Step) : Type 0 where
  pub step : Step
  pub steps : List Step
  pub is : place ≡ step ∷ steps
  pub behind : BehindStep bs step steps
  pub least : (s : Step) (ss : List Step) → BehindStep bs s ss → IsUpto (step ∷ steps) (s ∷ ss)

same_step : (s : Step) (p q : List Step) → IsUpto p q → IsUpto (s ∷ p) (s ∷ q)
same_step s p q (inl is) = inl (ap (λ r. s ∷ r) is)
same_step s p q (inr less) = inr (ap (λ o. ordering_then o (place_cmp p q)) (step_cmp-itself s) ∙ less)

later_step : (s r : Step) (p q : List Step) → Precedes s r → IsUpto (s ∷ p) (r ∷ q)
later_step s r p q before = inr (ap (λ o. ordering_then o (place_cmp p q)) (is_less (step_cmp s r) before))

-- behind the first branch's step, or behind a later one
first_or_later : (b : Branch) (bs : List Branch) (s : Step) (ss : List Step) → BehindStep (b ∷ bs) s ss → ((b.step ≡ s) × MisplacedUnder (is_version_step b.step) b.value ss) ⊎ BehindStep bs s ss
first_or_later b bs s ss h = elim (cases_Bool (step_eq b.step s)) [
  | inl this ↦
      let is : b.step ≡ s = step_eq-true b.step s this in
      let same : h.value ≡ b.value = same_Some h.value b.value (sym h.there ∙ at_step-first b bs s this) in
      inl (is, subst (λ (t : Tree). MisplacedUnder (is_version_step b.step) t ss) same (subst (λ (r : Step). MisplacedUnder (is_version_step r) h.value ss) (sym is) h.behind))
  | inr other ↦ inr (record { value = h.value; there = sym (at_step-later b bs s other) ∙ h.there; behind = h.behind })
]

-- behind the first branch
least_first : (b : Branch) (bs : List Branch) (p place : List Step) → StepsRise (b ∷ bs) → IsLeast (is_version_step b.step) b.value p → place ≡ b.step ∷ p → LeastBelow (b ∷ bs) place
least_first b bs p place rise one is = record {
  step = b.step;
  steps = p;
  is = is;
  behind = record { value = b.value; there = at_step-first b bs b.step (step_eq-itself b.step); behind = one.misplaced };
  least = λ s ss h. elim (first_or_later b bs s ss h) [
    | inl here ↦ subst (λ (r : Step). IsUpto (b.step ∷ p) (r ∷ ss)) here.0 (same_step b.step p ss (one.least ss here.1))
    | inr later ↦ later_step b.step s p ss (found_after b.step s bs later.value (first_comes_before b bs rise) later.there)
  ];
}

-- behind a later one, where nothing is misplaced behind the first
least_later : (b : Branch) (bs : List Branch) (place : List Step) → StepsRise (b ∷ bs) → misplaced b.value (is_version_step b.step) ≡ None → LeastBelow bs place → LeastBelow (b ∷ bs) place
least_later b bs place rise none l = record {
  step = l.step;
  steps = l.steps;
  is = l.is;
  behind =
      let after = found_after b.step l.step bs l.behind.value (first_comes_before b bs rise) l.behind.there in
      record { value = l.behind.value; there = at_step-later b bs l.step (precedes-differs b.step l.step after) ∙ l.behind.there; behind = l.behind.behind };
  least = λ s ss h. elim (first_or_later b bs s ss h) [
    | inl here ↦ absurd (none_misplaced b.value (is_version_step b.step) ss none here.1)
    | inr later ↦ l.least s ss later
  ];
}

least_below : (bs : List Branch) (place : List Step) → Each (λ (b : Branch). FindsLeast b.value) bs → StepsRise bs → Each (λ (b : Branch). is_lawful b.value ≡ true) bs → first_below bs ≡ Some place → LeastBelow bs place
least_below [] place finds rise lawful h = absurd (cc)
least_below (b ∷ bs) place finds rise lawful h = go (misplaced b.value (is_version_step b.step)) refl h (least_below bs place finds.1 (each_next-tail (λ (x y : Branch). is_lt (step_cmp x.step y.step)) b bs rise) lawful.1)
  where
    go : (o : Option (List Step)) → misplaced b.value (is_version_step b.step) ≡ o → or_else (below b.step o) (first_below bs) ≡ Some place → (first_below bs ≡ Some place → LeastBelow bs place) → LeastBelow (b ∷ bs) place
    go (Some p) e h more = least_first b bs p place rise (finds.0 (is_version_step b.step) p lawful.0 e) (sym (same_Some (b.step ∷ p) place h))
    go None e h more = least_later b bs place rise e (more h)

-- the version number itself
least_itself : (t : Tree) (named : Bool) (place : List Step) → is_version (out-Tree t) ≡ true → misplaced t named ≡ Some place → IsLeast named t place
least_itself t true place h first = absurd (none-some place (sym (misplaced-itself t true h) ∙ first))
least_itself t false place h first =
    let root : [] ≡ place = same_Some [] place (sym (misplaced-itself t false h) ∙ first) in
    subst (IsLeast false t) root (record {
      misplaced = record { stands = ap Some (is_number t (out-Tree t) refl h); not_named = refl };
      least = after_root;
    })
  where
    after_root : (other : List Step) → MisplacedUnder false t other → IsUpto [] other
    after_root [] m = inl refl
    after_root (s ∷ ss) m = inr refl

least_under : (t : Tree) (named : Bool) (place : List Step) → is_version (out-Tree t) ≡ false → LeastBelow (branches_of t) place → IsLeast named t place
least_under t named place h l = subst (IsLeast named t) (sym l.is) (record {
  misplaced = record { stands = ap (option_and_then (look l.steps)) (child_of-branches t l.step ∙ l.behind.there) ∙ l.behind.behind.stands; not_named = l.behind.behind.not_named };
  least = others;
})
  where
    others : (other : List Step) → MisplacedUnder named t other → IsUpto (l.step ∷ l.steps) other
    others [] m = absurd (true≢false (sym (is_version-Version t (same_Some t v.Version m.stands)) ∙ h))
    others (s ∷ ss) m = l.least s ss (behind_step t named s ss m)

-- in a lawful tree the first one that is found is the least, under whatever name the tree stands
pub finds_least : (t : Tree) → FindsLeast t
finds_least = by_branches FindsLeast (λ t e named place lawful first. elim (cases_Bool (is_version (out-Tree t))) [
  | inl this ↦ least_itself t named place this first
  | inr other ↦
      let parts = lawful_branches t lawful in
      least_under t named place other (least_below (branches_of t) place e parts.0 parts.1 (sym (misplaced-below t named other) ∙ first))
])

-- ---- at the root

from_root : (t : Tree) (place : List Step) → IsMisplaced t place → MisplacedUnder false t place
from_root t place m = record { stands = m.stands; not_named = sym (named_at-root place) ∙ m.not_named }

-- where there is no first one, none is misplaced
pub first_misplaced-None : (t : Tree) (place : List Step) → first_misplaced t ≡ None → IsMisplaced t place → ⊥
first_misplaced-None t place none m = none_misplaced t false place none (from_root t place m)

-- the first one is misplaced, and each other comes after it
pub first_misplaced-Some : (t : Tree) (place : List Step) → is_lawful t ≡ true → first_misplaced t ≡ Some place → IsMisplaced t place × ((other : List Step) → IsMisplaced t other → (other ≡ place) ⊎ (place_cmp place other ≡ Less))
first_misplaced-Some t place lawful first =
    let l = finds_least t false place lawful first in
    (record { stands = l.misplaced.stands; not_named = named_at-root place ∙ l.misplaced.not_named }, λ other m. l.least other (from_root t other m))
