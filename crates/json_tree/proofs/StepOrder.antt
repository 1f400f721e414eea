-- The order of steps: equality, transitivity, and what comes after the first of branches that rise.
use Rattle.std.proofs.Common.{◌≡◌, true, false, nat_lt, List, [], ◌∷◌, Some, None, Equal, refl, sym, ap, ◌∙◌, subst, arith, inl, inr}
use Rattle.std.specs.Ordering.{is_lt}
use Rattle.std.proofs.lemmas.Bool.{cases_Bool, and_parts}
use Rattle.std.proofs.lemmas.Bool.Decides.{nat_tests}
use Rattle.std.proofs.lemmas.Cmp.{tied_itself, nat_cmp_total, nat_list_cmp_total}
use Rattle.json_tree.specs.declared.tree.Tree.{Tree}
use Rattle.json_tree.specs.declared.place.Step.{Step}
use Rattle.json_tree.specs.declared.place.Step.TheVariants.{Key, At}
use Rattle.json_tree.specs.Misplaced.{step_cmp}
use Rattle.json_tree.proofs.Branches.{Branch, step_eq, at_step, StepsRise}
use Rattle.json_tree.proofs.Induction.{Each}
use Rattle.base_types.proofs.Numbers.{nat_lt-cmp}
use Rattle.base_types.proofs.Orders.{bytes_eq-true, bytes_eq-same, is_before-transitive, is_before-differs, bytes_eq-differ, bytes_eq-false}

-- ---- steps

-- a step is itself
pub step_eq-itself : (s : Step) → step_eq s s ≡ true
step_eq-itself (At i) = grind (arith, nat_tests)
step_eq-itself (Key key) = bytes_eq-same key key refl

-- steps that pass the test are one
pub step_eq-true : (s r : Step) → step_eq s r ≡ true → s ≡ r
step_eq-true (At i) (At j) h = let same : i ≡ j = grind (arith, nat_tests) in ap At same
step_eq-true (At i) (Key key) h = absurd (cc)
step_eq-true (Key key) (At j) h = absurd (cc)
step_eq-true (Key key) (Key name) h = ap Key (bytes_eq-true key name h)

-- a step stands beside itself
pub step_cmp-itself : (s : Step) → step_cmp s s ≡ Equal
step_cmp-itself (At i) = tied_itself nat_cmp_total i
step_cmp-itself (Key key) = tied_itself nat_list_cmp_total key

-- the first of two steps comes before the second
abbrev pub Precedes : Step → Step → Type 0
Precedes s r = is_lt (step_cmp s r) ≡ true

-- of three steps in order the first comes before the third
pub precedes-transitive : (s r q : Step) → Precedes s r → Precedes r q → Precedes s q
precedes-transitive (At i) (At j) (At k) a b =
    let first : nat_lt i j ≡ true = nat_lt-cmp i j ∙ a in
    let second : nat_lt j k ≡ true = nat_lt-cmp j k ∙ b in
    let both : nat_lt i k ≡ true = grind (arith, nat_tests) in
    sym (nat_lt-cmp i k) ∙ both
precedes-transitive (At i) (At j) (Key key) a b = refl
precedes-transitive (At i) (Key key) (At k) a b = absurd (cc)
precedes-transitive (At i) (Key key) (Key name) a b = refl
precedes-transitive (Key key) (At j) q a b = absurd (cc)
precedes-transitive (Key key) (Key name) (At k) a b = absurd (cc)
precedes-transitive (Key key) (Key name) (Key other) a b = is_before-transitive key name other a b

-- a step that comes before another is not that one
pub precedes-differs : (s r : Step) → Precedes s r → step_eq s r ≡ false
precedes-differs (At i) (At j) a = let first : nat_lt i j ≡ true = nat_lt-cmp i j ∙ a in grind (arith, nat_tests)
precedes-differs (At i) (Key key) a = refl
precedes-differs (Key key) (At j) a = refl
precedes-differs (Key key) (Key name) a = is_before-differs key name a

-- the test asks the same both ways
pub differs-back : (s r : Step) → step_eq s r ≡ false → step_eq r s ≡ false
differs-back (At i) (At j) h = grind (arith, nat_tests)
differs-back (At i) (Key key) h = refl
differs-back (Key key) (At j) h = refl
differs-back (Key key) (Key name) h = bytes_eq-false name key (λ e. bytes_eq-differ key name h (sym e))

-- ---- branches that rise

-- the step comes before each branch
abbrev pub ComesBefore : Step → List Branch → Type 0
ComesBefore s bs = Each (λ (b : Branch). Precedes s b.step) bs

-- what comes before a step comes before all that this step comes before
pub before_later : (s r : Step) (bs : List Branch) → Precedes s r → ComesBefore r bs → ComesBefore s bs
before_later s r [] a e = tt
before_later s r (b ∷ bs) a e = (precedes-transitive s r b.step a e.0, before_later s r bs a e.1)

-- where branches rise, the first comes before the others
pub first_comes_before : (b : Branch) (bs : List Branch) → StepsRise (b ∷ bs) → ComesBefore b.step bs
first_comes_before b [] h = tt
first_comes_before b (c ∷ cs) h =
    let p = and_parts (is_lt (step_cmp b.step c.step)) _ h in
    (p.0, before_later b.step c.step cs p.0 (first_comes_before c cs p.1))

-- among later branches nothing stands at the step
pub at_step-none : (s : Step) (bs : List Branch) → ComesBefore s bs → at_step s bs ≡ None
at_step-none s [] e = refl
at_step-none s (b ∷ bs) e =
    let other : step_eq b.step s ≡ false = differs-back s b.step (precedes-differs s b.step e.0) in
    rw other (at_step-none s bs e.1)

-- at the first branch's step stands its value
pub at_step-first : (b : Branch) (bs : List Branch) (s : Step) → step_eq b.step s ≡ true → at_step s (b ∷ bs) ≡ Some b.value
at_step-first b bs s h = rw h refl

-- at any other step stands what stands there among the later branches
pub at_step-later : (b : Branch) (bs : List Branch) (s : Step) → step_eq b.step s ≡ false → at_step s (b ∷ bs) ≡ at_step s bs
at_step-later b bs s h = rw h refl

-- a step that leads somewhere among later branches comes later
pub found_after : (s r : Step) (bs : List Branch) (u : Tree) → ComesBefore s bs → at_step r bs ≡ Some u → Precedes s r
found_after s r [] u e h = absurd (cc)
found_after s r (b ∷ bs) u e h = elim (cases_Bool (step_eq b.step r)) [
  | inl this ↦ subst (λ (q : Step). Precedes s q) (step_eq-true b.step r this) e.0
  | inr other ↦ found_after s r bs u e.1 (sym (at_step-later b bs r other) ∙ h)
]
