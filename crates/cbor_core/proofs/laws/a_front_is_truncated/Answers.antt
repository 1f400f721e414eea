use Rattle.cbor_core.proofs.Whole.{front_refused}
use Rattle.cbor_core.proofs.laws.a_front_is_truncated.Goals as goal

pub returns : goal.returns
returns c = λ item count front more h le s some. front_refused item count front more h le s some
