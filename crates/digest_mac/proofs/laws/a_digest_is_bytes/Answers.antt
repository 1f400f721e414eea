use Rattle.digest_mac.proofs.Labels.{bytes-digest, bytes-keyed_digest}
use Rattle.digest_mac.proofs.laws.a_digest_is_bytes.Goals as goal

pub returns : goal.returns
returns c = record { plain = bytes-digest; keyed = bytes-keyed_digest }
