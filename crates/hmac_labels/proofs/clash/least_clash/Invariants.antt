use Rattle.std.proofs.Common.{◌==◌, length}
use Rattle.std.specs.Cmp.Lexicographic.{pointwise}
use Rattle.indexmap.specs.IndexMap.{get}
use Rattle.hmac_labels.proofs.Turns.{Kept}
use Rattle.hmac_labels.proofs.clash.least_clash.Given as goal

abbrev pub invariant-loop-text : goal.invariant-loop-text
invariant-loop-text l = Kept l.texts l.rest l.least (get (pointwise ◌==◌) l.places)

abbrev pub decreases-loop-text : goal.decreases-loop-text
decreases-loop-text l = length l.rest
