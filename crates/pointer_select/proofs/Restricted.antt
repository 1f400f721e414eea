-- Trees restricted by a test of their places: what stands there, and that they are lawful.
use Rattle.std.proofs.Common.{◌≡◌, ℕ, ℤ, nat_lt, Bool, true, false, List, [], ◌∷◌, ◌++◌, map, Option, Some, None, option_map, option_and_then, if◌then◌else◌, refl, sym, ap, ◌∙◌, subst, inl, inr}
use Rattle.std.specs.List.{list_all}
use Rattle.std.specs.Ordering.{is_lt, nat_cmp}
use Rattle.std.proofs.lemmas.Bool.{cases_Bool, true≢false, and_parts, and_from}
use Rattle.base_types.proofs.Numbers.{nat_lt-cmp}
use Rattle.base_types.proofs.Searching.{each_next-map, each_next-tail}
use Rattle.json_tree.specs.declared.tree.Tree.{Tree, out-Tree, roll-Tree, roll-out-Tree, fold-roll-Tree}
use Rattle.json_tree.specs.declared.tree.Tree.TheOpen.{Tree-F}
use Rattle.json_tree.specs.declared.tree.Tree.TheVariants as v
use Rattle.json_tree.specs.declared.tree.Item.{Item}
use Rattle.json_tree.specs.declared.tree.Member.{Member}
use Rattle.json_tree.specs.declared.place.Step.{Step}
use Rattle.json_tree.specs.declared.place.Step.TheVariants.{Key, At}
use Rattle.json_tree.specs.Misplaced.{step_cmp}
use Rattle.json_tree.specs.Places.{child_of, look}
use Rattle.json_tree.specs.Trees.{is_lawful, each_next, is_before, element, new_member}
use Rattle.json_tree.proofs.Branches.{Branch, of_item, of_member, branches_in, branches_of, at_step, step_eq, child_of-branches, by_branches, StepsRise, lawful_branches}
use Rattle.json_tree.proofs.Induction.{Each, by_cases}
use Rattle.json_tree.proofs.StepOrder.{step_eq-true, ComesBefore, first_comes_before, at_step-first, at_step-later}
use Rattle.json_tree.proofs.TreeLemmas.{is_lawful-Null, is_lawful-Bool, is_lawful-Whole, is_lawful-Version, is_lawful-Text, is_lawful-List, is_lawful-Object}
use Rattle.pointer_select.specs.Internal.Parts.{Test, below_step, items_that, members_that, restrict_step, restricted}
use Rattle.pointer_select.specs.Selection.{kind_in}

-- ---- one equation for each variant

abbrev pub seen_item : Item Tree → Item (Test → Tree)
seen_item i = record { at = i.at; value = restricted i.value }

abbrev pub seen_member : Member Tree → Member (Test → Tree)
seen_member m = record { key = m.key; value = restricted m.value }

-- null stays
pub restricted-Null : (keep : Test) → restricted v.Null keep ≡ v.Null
restricted-Null keep = ap (λ t. restricted t keep) (sym v.rolls-Null) ∙ ap (λ (f : Test → Tree). f keep) (fold-roll-Tree (Test → Tree) restrict_step Tree-F.Null)

-- a boolean stays
pub restricted-Bool : (b : Bool) (keep : Test) → restricted (v.Bool b) keep ≡ v.Bool b
restricted-Bool b keep = ap (λ t. restricted t keep) (sym (v.rolls-Bool b)) ∙ ap (λ (f : Test → Tree). f keep) (fold-roll-Tree (Test → Tree) restrict_step (Tree-F.Bool b))

-- a whole number stays
pub restricted-Whole : (z : ℤ) (keep : Test) → restricted (v.Whole z) keep ≡ v.Whole z
restricted-Whole z keep = ap (λ t. restricted t keep) (sym (v.rolls-Whole z)) ∙ ap (λ (f : Test → Tree). f keep) (fold-roll-Tree (Test → Tree) restrict_step (Tree-F.Whole z))

-- a version number stays
pub restricted-Version : (keep : Test) → restricted v.Version keep ≡ v.Version
restricted-Version keep = ap (λ t. restricted t keep) (sym v.rolls-Version) ∙ ap (λ (f : Test → Tree). f keep) (fold-roll-Tree (Test → Tree) restrict_step Tree-F.Version)

-- a text stays
pub restricted-Text : (text : List ℕ) (keep : Test) → restricted (v.Text text) keep ≡ v.Text text
restricted-Text text keep = ap (λ t. restricted t keep) (sym (v.rolls-Text text)) ∙ ap (λ (f : Test → Tree). f keep) (fold-roll-Tree (Test → Tree) restrict_step (Tree-F.Text text))

-- a list has the elements that pass
pub restricted-List : (items : List (Item Tree)) (keep : Test) → restricted (v.List items) keep ≡ v.List (items_that (map seen_item items) keep)
restricted-List items keep = ap (λ t. restricted t keep) (sym (v.rolls-List items)) ∙ ap (λ (f : Test → Tree). f keep) (fold-roll-Tree (Test → Tree) restrict_step (Tree-F.List items))

-- an object has the members that pass
pub restricted-Object : (members : List (Member Tree)) (keep : Test) → restricted (v.Object members) keep ≡ v.Object (members_that (map seen_member members) keep)
restricted-Object members keep = ap (λ t. restricted t keep) (sym (v.rolls-Object members)) ∙ ap (λ (f : Test → Tree). f keep) (fold-roll-Tree (Test → Tree) restrict_step (Tree-F.Object members))

-- ---- nothing left out

abbrev all : Test
all place = true

abbrev IsWhole : Tree → Type 0
IsWhole t = restricted t all ≡ t

items_whole : (items : List (Item Tree)) → Each (λ (i : Item Tree). IsWhole i.value) items → items_that (map seen_item items) all ≡ items
items_whole [] e = refl
items_whole (i ∷ is) e = (λ k. element i.at (e.0 k) ∷ items_whole is e.1 k)

members_whole : (members : List (Member Tree)) → Each (λ (m : Member Tree). IsWhole m.value) members → members_that (map seen_member members) all ≡ members
members_whole [] e = refl
members_whole (m ∷ ms) e = (λ k. new_member m.key (e.0 k) ∷ members_whole ms e.1 k)

-- where every place passes the tree is as it was
pub restricted-all : (t : Tree) → restricted t (λ place. true) ≡ t
restricted-all = by_cases IsWhole record {
  null = restricted-Null all;
  boolean = λ b. restricted-Bool b all;
  whole = λ z. restricted-Whole z all;
  version = restricted-Version all;
  text = λ s. restricted-Text s all;
  items = λ is e. restricted-List is all ∙ ap v.List (items_whole is e);
  members = λ ms e. restricted-Object ms all ∙ ap v.Object (members_whole ms e);
}

-- ---- branches

abbrev kept_branch : Branch → Test → Branch
kept_branch b keep = record { step = b.step; value = restricted b.value (below_step b.step keep) }

-- the branches whose steps pass, restricted below
abbrev pub branches_that : List Branch → Test → List Branch
branches_that [] keep = []
branches_that (b ∷ bs) keep =
    if keep (b.step ∷ []) then kept_branch b keep ∷ branches_that bs keep else branches_that bs keep

items_branches : (items : List (Item Tree)) (keep : Test) → map of_item (items_that (map seen_item items) keep) ≡ branches_that (map of_item items) keep
items_branches [] keep = refl
items_branches (i ∷ is) keep = go (keep (At i.at ∷ [])) (items_branches is keep)
  where
    go : (b : Bool) → map of_item (items_that (map seen_item is) keep) ≡ branches_that (map of_item is) keep → map of_item (if b then element i.at (restricted i.value (below_step (At i.at) keep)) ∷ items_that (map seen_item is) keep else items_that (map seen_item is) keep) ≡ (if b then kept_branch (of_item i) keep ∷ branches_that (map of_item is) keep else branches_that (map of_item is) keep)
    go true more = ap (λ bs. kept_branch (of_item i) keep ∷ bs) more
    go false more = more

members_branches : (members : List (Member Tree)) (keep : Test) → map of_member (members_that (map seen_member members) keep) ≡ branches_that (map of_member members) keep
members_branches [] keep = refl
members_branches (m ∷ ms) keep = go (keep (Key m.key ∷ [])) (members_branches ms keep)
  where
    go : (b : Bool) → map of_member (members_that (map seen_member ms) keep) ≡ branches_that (map of_member ms) keep → map of_member (if b then new_member m.key (restricted m.value (below_step (Key m.key) keep)) ∷ members_that (map seen_member ms) keep else members_that (map seen_member ms) keep) ≡ (if b then kept_branch (of_member m) keep ∷ branches_that (map of_member ms) keep else branches_that (map of_member ms) keep)
    go true more = ap (λ bs. kept_branch (of_member m) keep ∷ bs) more
    go false more = more

opens : (t : Tree) (y : Tree-F Tree) → out-Tree t ≡ y → t ≡ roll-Tree y
opens t y e = sym (roll-out-Tree t) ∙ ap roll-Tree e

-- what is restricted opens as what is left of each level
level_in : (t : Tree) (keep : Test) (y : Tree-F Tree) → out-Tree t ≡ y → (branches_of (restricted t keep) ≡ branches_that (branches_in y) keep) × (kind_in (out-Tree (restricted t keep)) ≡ kind_in y)
level_in t keep Tree-F.Null e =
    let is = ap (λ u. restricted u keep) (opens t Tree-F.Null e ∙ v.rolls-Null) ∙ restricted-Null keep in
    (ap branches_of is ∙ ap branches_in v.outs-Null, ap (λ u. kind_in (out-Tree u)) is ∙ ap kind_in v.outs-Null)
level_in t keep (Tree-F.Bool b) e =
    let is = ap (λ u. restricted u keep) (opens t (Tree-F.Bool b) e ∙ v.rolls-Bool b) ∙ restricted-Bool b keep in
    (ap branches_of is ∙ ap branches_in (v.outs-Bool b), ap (λ u. kind_in (out-Tree u)) is ∙ ap kind_in (v.outs-Bool b))
level_in t keep (Tree-F.Whole z) e =
    let is = ap (λ u. restricted u keep) (opens t (Tree-F.Whole z) e ∙ v.rolls-Whole z) ∙ restricted-Whole z keep in
    (ap branches_of is ∙ ap branches_in (v.outs-Whole z), ap (λ u. kind_in (out-Tree u)) is ∙ ap kind_in (v.outs-Whole z))
level_in t keep Tree-F.Version e =
    let is = ap (λ u. restricted u keep) (opens t Tree-F.Version e ∙ v.rolls-Version) ∙ restricted-Version keep in
    (ap branches_of is ∙ ap branches_in v.outs-Version, ap (λ u. kind_in (out-Tree u)) is ∙ ap kind_in v.outs-Version)
level_in t keep (Tree-F.Text s) e =
    let is = ap (λ u. restricted u keep) (opens t (Tree-F.Text s) e ∙ v.rolls-Text s) ∙ restricted-Text s keep in
    (ap branches_of is ∙ ap branches_in (v.outs-Text s), ap (λ u. kind_in (out-Tree u)) is ∙ ap kind_in (v.outs-Text s))
level_in t keep (Tree-F.List items) e =
    let is = ap (λ u. restricted u keep) (opens t (Tree-F.List items) e ∙ v.rolls-List items) ∙ restricted-List items keep in (
      ap branches_of is ∙ ap branches_in (v.outs-List (items_that (map seen_item items) keep)) ∙ items_branches items keep,
      ap (λ u. kind_in (out-Tree u)) is ∙ ap kind_in (v.outs-List (items_that (map seen_item items) keep)),
    )
level_in t keep (Tree-F.Object members) e =
    let is = ap (λ u. restricted u keep) (opens t (Tree-F.Object members) e ∙ v.rolls-Object members) ∙ restricted-Object members keep in (
      ap branches_of is ∙ ap branches_in (v.outs-Object (members_that (map seen_member members) keep)) ∙ members_branches members keep,
      ap (λ u. kind_in (out-Tree u)) is ∙ ap kind_in (v.outs-Object (members_that (map seen_member members) keep)),
    )

-- the branches of what is restricted
pub branches_restricted : (t : Tree) (keep : Test) → branches_of (restricted t keep) ≡ branches_that (branches_of t) keep
branches_restricted t keep = (level_in t keep (out-Tree t) refl).0

-- and its kind
pub kind_restricted : (t : Tree) (keep : Test) → kind_in (out-Tree (restricted t keep)) ≡ kind_in (out-Tree t)
kind_restricted t keep = (level_in t keep (out-Tree t) refl).1

-- ---- what stands there

abbrev child_that : Step → Test → Option Tree → Option Tree
child_that s keep o = if keep (s ∷ []) then option_map (λ u. restricted u (below_step s keep)) o else None

that_true : (s : Step) (keep : Test) (o : Option Tree) → keep (s ∷ []) ≡ true → child_that s keep o ≡ option_map (λ u. restricted u (below_step s keep)) o
that_true s keep o h = ap (λ (b : Bool). if b then option_map (λ u. restricted u (below_step s keep)) o else None) h

that_false : (s : Step) (keep : Test) (o : Option Tree) → keep (s ∷ []) ≡ false → child_that s keep o ≡ None
that_false s keep o h = ap (λ (b : Bool). if b then option_map (λ u. restricted u (below_step s keep)) o else None) h

none_there : (s : Step) (keep : Test) → None ≡ child_that s keep None
none_there s keep = go (keep (s ∷ []))
  where
    go : (b : Bool) → None ≡ (if b then option_map (λ u. restricted u (below_step s keep)) None else None)
    go true = refl
    go false = refl

here_true : (b : Branch) (bs : List Branch) (keep : Test) → keep (b.step ∷ []) ≡ true → branches_that (b ∷ bs) keep ≡ kept_branch b keep ∷ branches_that bs keep
here_true b bs keep h = ap (λ (t : Bool). if t then kept_branch b keep ∷ branches_that bs keep else branches_that bs keep) h

here_false : (b : Branch) (bs : List Branch) (keep : Test) → keep (b.step ∷ []) ≡ false → branches_that (b ∷ bs) keep ≡ branches_that bs keep
here_false b bs keep h = ap (λ (t : Bool). if t then kept_branch b keep ∷ branches_that bs keep else branches_that bs keep) h

at_that : (bs : List Branch) (keep : Test) (s : Step) → at_step s (branches_that bs keep) ≡ child_that s keep (at_step s bs)
at_that [] keep s = none_there s keep
at_that (b ∷ bs) keep s = elim (cases_Bool (step_eq b.step s)) [
  | inl this ↦
      let is : b.step ≡ s = step_eq-true b.step s this in
      let first = ap (child_that s keep) (at_step-first b bs s this) in
      elim (cases_Bool (keep (b.step ∷ []))) [
        | inl kept ↦
            let passes : keep (s ∷ []) ≡ true = ap (λ (r : Step). keep (r ∷ [])) (sym is) ∙ kept in
            ap (at_step s) (here_true b bs keep kept) ∙ at_step-first (kept_branch b keep) (branches_that bs keep) s this
            ∙ ap (λ (r : Step). Some (restricted b.value (below_step r keep))) is
            ∙ sym (first ∙ that_true s keep (Some b.value) passes)
        | inr dropped ↦
            let fails : keep (s ∷ []) ≡ false = ap (λ (r : Step). keep (r ∷ [])) (sym is) ∙ dropped in
            ap (at_step s) (here_false b bs keep dropped) ∙ at_that bs keep s ∙ that_false s keep (at_step s bs) fails
            ∙ sym (first ∙ that_false s keep (Some b.value) fails)
      ]
  | inr other ↦
      let later = ap (child_that s keep) (at_step-later b bs s other) in
      elim (cases_Bool (keep (b.step ∷ []))) [
        | inl kept ↦ ap (at_step s) (here_true b bs keep kept) ∙ at_step-later (kept_branch b keep) (branches_that bs keep) s other ∙ at_that bs keep s ∙ sym later
        | inr dropped ↦ ap (at_step s) (here_false b bs keep dropped) ∙ at_that bs keep s ∙ sym later
      ]
]

child_restricted : (t : Tree) (keep : Test) (s : Step) → child_of (restricted t keep) s ≡ child_that s keep (child_of t s)
child_restricted t keep s =
    child_of-branches (restricted t keep) s ∙ ap (at_step s) (branches_restricted t keep) ∙ at_that (branches_of t) keep s
    ∙ ap (child_that s keep) (sym (child_of-branches t s))

-- a test that holds of a place holds of each place above it
abbrev pub HoldsAbove : Test → Type 0
HoldsAbove keep = (p q : List Step) → keep (p ++ q) ≡ true → keep p ≡ true

-- the same test of the places below one
abbrev pub beneath : List Step → Test → Test
beneath place keep p = keep (place ++ p)

below_that : (s : Step) (ss : List Step) (keep : Test) (o : Option Tree) → ((u : Tree) → look ss (restricted u (below_step s keep)) ≡ option_map (λ w. restricted w (beneath ss (below_step s keep))) (look ss u)) → option_and_then (look ss) (option_map (λ u. restricted u (below_step s keep)) o) ≡ option_map (λ u. restricted u (beneath (s ∷ ss) keep)) (option_and_then (look ss) o)
below_that s ss keep None each = refl
below_that s ss keep (Some u) each = each u

-- where a place passes what stood there stands there, restricted below
pub look_restricted : (place : List Step) (t : Tree) (keep : Test) → HoldsAbove keep → keep place ≡ true → look place (restricted t keep) ≡ option_map (λ u. restricted u (beneath place keep)) (look place t)
look_restricted [] t keep above h = refl
look_restricted (s ∷ ss) t keep above h =
    let passes = above (s ∷ []) ss h in
    ap (option_and_then (look ss)) (child_restricted t keep s ∙ that_true s keep (child_of t s) passes)
    ∙ below_that s ss keep (child_of t s) (λ u. look_restricted ss u (below_step s keep) (λ p q g. above (s ∷ p) q g) h)

none_below : (s : Step) (ss : List Step) (keep : Test) (o : Option Tree) → ((u : Tree) → look ss (restricted u (below_step s keep)) ≡ None) → option_and_then (look ss) (option_map (λ u. restricted u (below_step s keep)) o) ≡ None
none_below s ss keep None each = refl
none_below s ss keep (Some u) each = each u

-- where a place does not pass nothing stands, but at a root that passes
pub look_left_out : (place : List Step) (t : Tree) (keep : Test) → keep [] ≡ true → keep place ≡ false → look place (restricted t keep) ≡ None
look_left_out [] t keep root h = absurd (true≢false (sym root ∙ h))
look_left_out (s ∷ ss) t keep root h = elim (cases_Bool (keep (s ∷ []))) [
  | inl passes ↦
      ap (option_and_then (look ss)) (child_restricted t keep s ∙ that_true s keep (child_of t s) passes)
      ∙ none_below s ss keep (child_of t s) (λ u. look_left_out ss u (below_step s keep) passes h)
  | inr fails ↦ ap (option_and_then (look ss)) (child_restricted t keep s ∙ that_false s keep (child_of t s) fails)
]

-- ---- lawful

before_that : (s : Step) (bs : List Branch) (keep : Test) → ComesBefore s bs → ComesBefore s (branches_that bs keep)
before_that s [] keep e = tt
before_that s (b ∷ bs) keep e = elim (cases_Bool (keep (b.step ∷ []))) [
  | inl kept ↦ subst (ComesBefore s) (sym (here_true b bs keep kept)) (e.0, before_that s bs keep e.1)
  | inr dropped ↦ subst (ComesBefore s) (sym (here_false b bs keep dropped)) (before_that s bs keep e.1)
]

rise_first : (b : Branch) (bs : List Branch) → ComesBefore b.step bs → StepsRise bs → StepsRise (b ∷ bs)
rise_first b [] e h = refl
rise_first b (c ∷ cs) e h = and_from (is_lt (step_cmp b.step c.step)) _ e.0 h

rise_that : (bs : List Branch) (keep : Test) → StepsRise bs → StepsRise (branches_that bs keep)
rise_that [] keep h = refl
rise_that (b ∷ bs) keep h =
    let rest = rise_that bs keep (each_next-tail (λ (x y : Branch). is_lt (step_cmp x.step y.step)) b bs h) in
    elim (cases_Bool (keep (b.step ∷ []))) [
      | inl kept ↦ subst StepsRise (sym (here_true b bs keep kept)) (rise_first (kept_branch b keep) (branches_that bs keep) (before_that b.step bs keep (first_comes_before b bs h)) rest)
      | inr dropped ↦ subst StepsRise (sym (here_false b bs keep dropped)) rest
    ]

abbrev AreLawful : List Branch → Type 0
AreLawful bs = Each (λ (b : Branch). is_lawful b.value ≡ true) bs

abbrev StaysLawful : Tree → Type 0
StaysLawful t = is_lawful t ≡ true → (keep : Test) → is_lawful (restricted t keep) ≡ true

lawful_that : (bs : List Branch) (keep : Test) → Each (λ (b : Branch). StaysLawful b.value) bs → AreLawful bs → AreLawful (branches_that bs keep)
lawful_that [] keep e l = tt
lawful_that (b ∷ bs) keep e l = elim (cases_Bool (keep (b.step ∷ []))) [
  | inl kept ↦ subst AreLawful (sym (here_true b bs keep kept)) (e.0 l.0 (below_step b.step keep), lawful_that bs keep e.1 l.1)
  | inr dropped ↦ subst AreLawful (sym (here_false b bs keep dropped)) (lawful_that bs keep e.1 l.1)
]

items_all : (items : List (Item Tree)) → AreLawful (map of_item items) → list_all (λ i. is_lawful i.value) items ≡ true
items_all [] e = refl
items_all (i ∷ is) e = and_from (is_lawful i.value) _ e.0 (items_all is e.1)

members_all : (members : List (Member Tree)) → AreLawful (map of_member members) → list_all (λ m. is_lawful m.value) members ≡ true
members_all [] e = refl
members_all (m ∷ ms) e = and_from (is_lawful m.value) _ e.0 (members_all ms e.1)

items_next : (items : List (Item Tree)) → StepsRise (map of_item items) → each_next (λ i j. nat_lt i.at j.at) items ≡ true
items_next [] h = refl
items_next (i ∷ []) h = refl
items_next (i ∷ j ∷ is) h =
    let parts = and_parts (is_lt (nat_cmp i.at j.at)) _ h in
    and_from (nat_lt i.at j.at) _ (nat_lt-cmp i.at j.at ∙ parts.0) (items_next (j ∷ is) parts.1)

members_next : (members : List (Member Tree)) → StepsRise (map of_member members) → each_next (λ m n. is_before m.key n.key) members ≡ true
members_next members h = sym (each_next-map of_member (λ (b c : Branch). is_lt (step_cmp b.step c.step)) members) ∙ h

lawful_from : (t : Tree) (y : Tree-F Tree) → out-Tree t ≡ y → StepsRise (branches_in y) → AreLawful (branches_in y) → is_lawful t ≡ true
lawful_from t Tree-F.Null e h l = ap is_lawful (opens t Tree-F.Null e ∙ v.rolls-Null) ∙ is_lawful-Null
lawful_from t (Tree-F.Bool b) e h l = ap is_lawful (opens t (Tree-F.Bool b) e ∙ v.rolls-Bool b) ∙ is_lawful-Bool b
lawful_from t (Tree-F.Whole z) e h l = ap is_lawful (opens t (Tree-F.Whole z) e ∙ v.rolls-Whole z) ∙ is_lawful-Whole z
lawful_from t Tree-F.Version e h l = ap is_lawful (opens t Tree-F.Version e ∙ v.rolls-Version) ∙ is_lawful-Version
lawful_from t (Tree-F.Text s) e h l = ap is_lawful (opens t (Tree-F.Text s) e ∙ v.rolls-Text s) ∙ is_lawful-Text s
lawful_from t (Tree-F.List items) e h l =
    ap is_lawful (opens t (Tree-F.List items) e ∙ v.rolls-List items) ∙ is_lawful-List items
    ∙ and_from (each_next (λ i j. nat_lt i.at j.at) items) _ (items_next items h) (items_all items l)
lawful_from t (Tree-F.Object members) e h l =
    ap is_lawful (opens t (Tree-F.Object members) e ∙ v.rolls-Object members) ∙ is_lawful-Object members
    ∙ and_from (each_next (λ m n. is_before m.key n.key) members) _ (members_next members h) (members_all members l)

-- what is restricted is lawful where the tree was
pub restricted_lawful : (t : Tree) → StaysLawful t
restricted_lawful = by_branches StaysLawful (λ t e lawful keep.
    let parts = lawful_branches t lawful in
    let bs = branches_restricted t keep in
    lawful_from (restricted t keep) (out-Tree (restricted t keep)) refl
    (subst StepsRise (sym bs) (rise_that (branches_of t) keep parts.0))
    (subst AreLawful (sym bs) (lawful_that (branches_of t) keep e parts.1)))
