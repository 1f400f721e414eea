use Rattle.digest_mac.proofs.Padding.{keyed_digest-zeros}
use Rattle.digest_mac.proofs.laws.zeros_after_a_key_change_nothing.Goals as goal

pub returns : goal.returns
returns c = keyed_digest-zeros
