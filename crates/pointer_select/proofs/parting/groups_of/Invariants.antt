use Rattle.std.proofs.Common.{◌≡◌, map, take}
use Rattle.pointer_select.specs.Internal.Parts.{after_steps, steps_of, slices, groups_now}
use Rattle.pointer_select.proofs.parting.groups_of.Given as goal

-- the places so far are in the groups
abbrev pub invariant-loop-steps : goal.invariant-loop-steps
invariant-loop-steps l = groups_now l.groups.items ≡ map (λ step. after_steps step (slices (take l.steps-index l.pointed))) (steps_of l.tree)
