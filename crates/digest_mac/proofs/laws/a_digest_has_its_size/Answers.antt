use Rattle.digest_mac.proofs.Sizes.{length-digest, length-digits}
use Rattle.digest_mac.proofs.laws.a_digest_has_its_size.Goals as goal

pub returns : goal.returns
returns c = record { bytes = length-digest; digits = length-digits }
