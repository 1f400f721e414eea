use Rattle.std.proofs.Common.{take}
use Rattle.pointer_select.specs.Internal.Parts.{steps_of, slices, groups_now}
use Rattle.pointer_select.proofs.Groups.{groups_first, groups_length, groups_more}
use Rattle.pointer_select.proofs.parting.groups_of.Goals as goal

pub loop-steps-init : goal.loop-steps-init
loop-steps-init c = groups_first (steps_of c.args.tree.now) c.args.count c.in_ok-groups.groups.items c.in_ok-groups.ensures c.requires.all

pub add-requires-clause-all : goal.add-requires-clause-all
add-requires-clause-all c = groups_length (steps_of c.args.tree.now) (slices (take c.loop-steps.steps-index c.args.pointed.now)) c.loop-steps.groups.items c.loop-steps.invariant

pub loop-steps-preserved : goal.loop-steps-preserved
loop-steps-preserved c = groups_more c.args.pointed.now c.loop-steps.steps-index c.steps-item.result (steps_of c.args.tree.now) (groups_now c.loop-steps.groups.items) (groups_now c.add.new.groups.items) c.loop-steps.invariant c.in_ok-add.ensures c.loop-steps-test.true c.steps-item.is
