use Rattle.key_device.proofs.Halves.{accepts-own, accepts-only}
use Rattle.key_device.proofs.laws.one_signature_is_accepted.Goals as goal

pub returns : goal.returns
returns c = λ root bytes name s. (accepts-only root bytes name s, λ h. accepts-own root bytes name s h.0 h.1)
