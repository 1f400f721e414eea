use Rattle.std.proofs.Common.{length}
use Rattle.proof_options.proofs.Runs.{SoFar}
use Rattle.proof_options.proofs.reading.read_run.Given as goal

abbrev pub invariant-loop-digit : goal.invariant-loop-digit
invariant-loop-digit l = SoFar l.bytes l.rest l.count l.unit l.sum

abbrev pub decreases-loop-digit : goal.decreases-loop-digit
decreases-loop-digit l = length l.rest
