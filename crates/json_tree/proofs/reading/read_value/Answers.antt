use Rattle.std.proofs.Common.{◌∙◌, sym, ap, option_map}
use Rattle.json_tree.specs.Places.{first_misplaced}
use Rattle.json_tree.proofs.Depths.{is_shallow_enough, is_over_the_limit}
use Rattle.json_tree.proofs.reading.read_value.Goals as goal

pub returns-then-not-is_within-clause-outcome : goal.returns-then-not-is_within-clause-outcome
returns-then-not-is_within-clause-outcome c = is_over_the_limit _ _ c.is_within.ensures c.if-not-is_within.true

pub returns-in-Some-clause-outcome : goal.returns-in-Some-clause-outcome
returns-in-Some-clause-outcome c = (
  is_shallow_enough _ _ c.is_within.ensures c.if-not-is_within.false,
  ap first_misplaced (sym c.in_ok-tree.ensures.is) ∙ sym c.in_ok-place.ensures ∙ ap (option_map (λ place. place.steps)) c.in-Some.is,
)

pub returns-in-None-clause-outcome : goal.returns-in-None-clause-outcome
returns-in-None-clause-outcome c = (
  c.in_ok-tree.ensures.is,
  is_shallow_enough _ _ c.is_within.ensures c.if-not-is_within.false,
  ap first_misplaced (sym c.in_ok-tree.ensures.is) ∙ sym c.in_ok-place.ensures ∙ ap (option_map (λ place. place.steps)) c.in-None.is,
)
