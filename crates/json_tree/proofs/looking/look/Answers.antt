use Rattle.std.proofs.Common.{ap, ◌∙◌, drop_of_length-le}
use Rattle.json_tree.specs.Places.{look}
use Rattle.json_tree.proofs.Kept.{look_well_formed}
use Rattle.json_tree.proofs.looking.look.Goals as goal

pub returns-clause-well_formed : goal.returns-clause-well_formed
returns-clause-well_formed c w =
    look_well_formed c.args.steps.now c.args.tree.now c.loop-step.here.now w (c.loop-step.invariant.further ∙ ap (λ ss. look ss c.loop-step.here.now) (drop_of_length-le c.args.steps.now c.loop-step-test.false))
