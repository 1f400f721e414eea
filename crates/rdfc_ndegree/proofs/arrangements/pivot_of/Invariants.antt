use Rattle.std.proofs.Common.{◌-◌, ◌≤◌, drop, length}
use Rattle.rdfc_ndegree.specs.Internal.Sequences.{Falls}
use Rattle.rdfc_ndegree.proofs.arrangements.pivot_of.Given as goal

abbrev pub invariant-loop-end : goal.invariant-loop-end
invariant-loop-end l = (l.end ≤ length l.numbers) × Falls (drop (l.end - 1) l.numbers)

abbrev pub decreases-loop-end : goal.decreases-loop-end
decreases-loop-end l = l.end
