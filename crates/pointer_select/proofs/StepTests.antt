-- The test of steps.
use Rattle.std.proofs.Common.{◌≡◌, true, refl, sym, ◌∙◌}
use Rattle.json_tree.specs.declared.place.Step.{Step}
use Rattle.json_tree.specs.declared.place.Step.TheVariants.{Key, At}
use Rattle.json_tree.proofs.Branches.{step_eq}
use Rattle.json_tree.proofs.StepOrder.{step_eq-itself, step_eq-true}
use Rattle.pointer_select.specs.Internal.Parts.{is_step}

-- it is the test of the crate below
pub is_step-eq : (s r : Step) → is_step s r ≡ step_eq s r
is_step-eq (At i) (At j) = refl
is_step-eq (At i) (Key key) = refl
is_step-eq (Key key) (At j) = refl
is_step-eq (Key key) (Key name) = refl

-- a step is itself, and steps that pass are one
pub is_step-itself : (s : Step) → is_step s s ≡ true
is_step-itself s = is_step-eq s s ∙ step_eq-itself s

-- steps that pass are one
pub is_step-true : (s r : Step) → is_step s r ≡ true → s ≡ r
is_step-true s r h = step_eq-true s r (sym (is_step-eq s r) ∙ h)
