use Rattle.digest_mac.proofs.Padding.{keyed_digest-long}
use Rattle.digest_mac.proofs.laws.a_longer_key_is_as_its_digest.Goals as goal

pub returns : goal.returns
returns c = keyed_digest-long
