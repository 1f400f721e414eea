use Rattle.proof_cbor.proofs.Beginnings.{header_tells}
use Rattle.proof_cbor.proofs.laws.a_header_tells_its_kind_and_hash.Goals as goal

pub returns : goal.returns
returns c = λ kind other hash another e. header_tells kind other hash another e
