use Rattle.std.proofs.Common.{◌≡◌, ℕ, ◌<◌, ◌≤◌, true}
use Rattle.key_device.specs.Ledgers.{has_key, numbered_key}
use Rattle.key_device.proofs.ledger.next_free.Given as goal

abbrev pub invariant-loop-number : goal.invariant-loop-number
invariant-loop-number l = (m : ℕ) → 1 ≤ m → m < l.number → has_key l.owned.keys (numbered_key m) ≡ true
