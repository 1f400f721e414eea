use Rattle.std.proofs.Common.{◌≡◌, take}
use Rattle.key_device.specs.declared.keys.KeyName.{KeyName}
use Rattle.key_device.specs.Ledgers.{has_key}
use Rattle.key_device.proofs.ledger.LedgerDevice.new.Given as goal

abbrev pub invariant-loop-name : goal.invariant-loop-name
invariant-loop-name l = (key : KeyName) → has_key l.owned.keys key ≡ has_key (take l.name-index l.keys) key
