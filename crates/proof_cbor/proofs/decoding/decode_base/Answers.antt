use Rattle.proof_cbor.proofs.Making.{base_count}
use Rattle.proof_cbor.proofs.RefusingTexts.{base_exact}
use Rattle.std.proofs.Common.{Ok}
use Rattle.proof_cbor.proofs.decoding.decode_base.Goals as goal

pub returns-clause-only : goal.returns-clause-only
returns-clause-only c = λ value s. base_exact c.args.text.now c.read_base.result (Ok value) c.read_base.ensures.reads s

pub returns-clause-exact : goal.returns-clause-exact
returns-clause-exact c = λ outcome s. base_exact c.args.text.now c.read_base.result outcome c.read_base.ensures.reads s

pub returns-clause-count : goal.returns-clause-count
returns-clause-count c = base_count c.args.text.now c.read_base.result c.read_base.ensures.found
