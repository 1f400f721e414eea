use Rattle.digest_mac.proofs.Labels.{multibase_text-injective}
use Rattle.digest_mac.proofs.laws.different_bytes_have_different_labels.Goals as goal

pub returns : goal.returns
returns c = multibase_text-injective
