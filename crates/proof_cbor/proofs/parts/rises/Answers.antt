use Rattle.std.proofs.Common.{arith}
use Rattle.proof_cbor.proofs.Rise.{rise_more}
use Rattle.proof_cbor.proofs.parts.rises.Goals as goal

pub loop-number-preserved : goal.loop-number-preserved
loop-number-preserved c = rise_more _ c.loop-number.number-index c.loop-number.last _ c.loop-number-test.true (omega arith) c.loop-number.invariant
