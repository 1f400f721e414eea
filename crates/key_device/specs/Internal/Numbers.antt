-- The number of a ledger's signature.
use Rattle.std.specs.Prelude.{ℕ, take, drop}
use Rattle.std.specs.Int.{w64, from_be_bytes}
use Rattle.key_device.specs.declared.keys.Signature.{Signature}

-- the number that a numbered signature ends with
unfoldable pub signature_number : Signature → ℕ
signature_number signature = from_be_bytes w64 (take 8 (drop 56 signature.bytes))
