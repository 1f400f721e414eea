use Rattle.std.proofs.Common.{◌+◌, ◌<◌, ◌≤◌, drop, length}
use Rattle.std.specs.Prelude.{slice_index}
use Rattle.std.specs.List.{AllByRecursion}
use Rattle.rdfc_ndegree.proofs.arrangements.last_above.Given as goal

abbrev pub invariant-loop-above : goal.invariant-loop-above
invariant-loop-above l = (l.pivot < l.above) × (l.above < length l.numbers) × AllByRecursion (λ y. y ≤ slice_index l.numbers l.pivot) (drop (l.above + 1) l.numbers)

abbrev pub decreases-loop-above : goal.decreases-loop-above
decreases-loop-above l = l.above
