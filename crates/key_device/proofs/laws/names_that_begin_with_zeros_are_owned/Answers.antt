use Rattle.std.proofs.Common.{refl}
use Rattle.key_device.specs.HmacDevices.{fresh_name}
use Rattle.key_device.specs.Ledgers.{numbered_key}
use Rattle.key_device.proofs.Halves.{owns_name-begins}
use Rattle.key_device.proofs.laws.names_that_begin_with_zeros_are_owned.Goals as goal

pub returns : goal.returns
unfolding fresh_name numbered_key
returns c = record {
  owned = owns_name-begins;
  fresh = λ bytes. refl;
  of_a_ledger = λ n. refl;
}
