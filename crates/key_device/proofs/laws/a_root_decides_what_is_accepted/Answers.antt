use Rattle.std.proofs.Common.{List, ℕ, refl, sym, ap}
use Rattle.key_device.specs.HmacDevices.{hmac_accepts}
use Rattle.key_device.proofs.laws.a_root_decides_what_is_accepted.Goals as goal

pub returns : goal.returns
returns c = record {
  ownership = λ one other key. refl;
  acceptance = λ one other same key bytes s. ap (λ (root : List ℕ). hmac_accepts root key bytes s) (sym same);
}
