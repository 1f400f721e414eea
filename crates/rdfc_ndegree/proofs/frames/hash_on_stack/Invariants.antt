use Rattle.std.proofs.Common.{◌+◌, ◌-◌, ◌*◌}
use Rattle.rdfc_ndegree.specs.Internal.Frames.{call_task}
use Rattle.rdfc_ndegree.specs.Internal.Weights.{arrangement_weight, move_weight, stack_weight}
use Rattle.rdfc_ndegree.proofs.Turns.{InLoop}
use Rattle.rdfc_ndegree.proofs.frames.hash_on_stack.Given as goal

-- the stack was begun for this call
abbrev pub invariant-loop-next : goal.invariant-loop-next
invariant-loop-next l = InLoop l.hash l.table l.canonical (call_task l.fn.node l.fn.issuer l.fn.meter.spent) l.fn.meter l.meter l.stack l.shared l.next

-- each turn counts an arrangement or makes less of what is left
abbrev pub decreases-loop-next : goal.decreases-loop-next
decreases-loop-next l = arrangement_weight l.table * (l.fn.meter.limits.work - l.meter.spent) + stack_weight l.stack + move_weight (arrangement_weight l.table) l.next
