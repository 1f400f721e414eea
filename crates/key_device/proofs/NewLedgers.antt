-- What a new ledger signs under: the keys that it was given.
use Rattle.std.proofs.Common.{◌≡◌, Bool, true, false, List, Contains, Result, Ok, Err, OnOk, sym, refl}
use Rattle.std.specs.Str.{bytes_eq}
use Rattle.std.proofs.lemmas.List.Folds.{list_any_at}
use Rattle.std.proofs.lemmas.Map.Views.{Contains-from_any}
use Rattle.base_types.proofs.Orders.{bytes_eq-same, bytes_eq-true}
use Rattle.key_device.specs.declared.device.DeviceError.{DeviceError}
use Rattle.key_device.specs.declared.device.DeviceError.TheVariants as error
use Rattle.key_device.specs.declared.keys.KeyName.{KeyName}
use Rattle.key_device.specs.declared.keys.Signature.{Signature}
use Rattle.key_device.specs.Ledgers.{has_key}

same_name : (k l : KeyName) → bytes_eq k.bytes l.bytes ≡ true → k ≡ l
same_name k l p = (λ i. record { bytes = bytes_eq-true k.bytes l.bytes p i })

-- a key that is found is one of them
found_key : (keys : List KeyName) (key : KeyName) → has_key keys key ≡ true → Contains keys key
found_key keys key = Contains-from_any {eq = λ x y. bytes_eq x.bytes y.bytes} same_name key keys

-- one of them is found
pub has_key-contained : (keys : List KeyName) (key : KeyName) → Contains keys key → has_key keys key ≡ true
has_key-contained keys key c =
    list_any_at (λ k. bytes_eq key.bytes k.bytes) keys c.0 key c.1 (rw c.2 (bytes_eq-same key.bytes key.bytes refl))

-- where a key that is not owned is refused, what was signed is under one of the keys
signed_by : (keys : List KeyName) (key : KeyName) (b : Bool) (result : Result Signature DeviceError) → b ≡ has_key keys key → (b ≡ false → result ≡ Err error.NoKey) → OnOk result (Contains keys key)
signed_by keys key true (Ok s) is refuses = found_key keys key (sym is)
signed_by keys key false (Ok s) is refuses = absurd (cc (refuses refl))
signed_by keys key b (Err e) is refuses = tt

-- the same, of the keys that a ledger was made with
pub signs_under_its_keys : (keys owned : List KeyName) (key : KeyName) (result : Result Signature DeviceError) → ((k : KeyName) → has_key owned k ≡ has_key keys k) → (has_key owned key ≡ false → result ≡ Err error.NoKey) → OnOk result (Contains keys key)
signs_under_its_keys keys owned key result same refuses = signed_by keys key (has_key owned key) result (same key) refuses
