use Rattle.std.proofs.Common.{arith}
use Rattle.proof_cbor.proofs.encoding.text_in.Goals as goal

pub returns-clause-proper : goal.returns-clause-proper
returns-clause-proper c = λ i. let f = c.type_inv.bytes i in omega arith
