-- A device that does what an inner device does, but fails at chosen calls; and one that fails at
-- each call.
use Rattle.std.specs.Prelude.{◌≡◌, ◌⊎◌, ℕ, ◌+◌, ◌-◌, ◌^◌, min, false, List, Contains, None, refl}
use Rattle.std.specs.Coded.{Coded, code_by, coded×, coded_ℕ, coded_list}
use Rattle.base_types.specs.Counts.{one_more}
use Rattle.key_device.specs.Devices.{DeviceMeaning, CountsFault}

-- a device over an inner one: the numbers from 1 of the calls that fail, the number of calls so
-- far, and how many of them failed by their number
pub record FailingState (D : Type 0) : Type 0 where
  pub inner : D
  pub fails : List ℕ
  pub calls : ℕ
  pub count : ℕ

-- such a device is stored as its four parts
abbrev pub failing_code : {D : Type 0} → Coded D → Coded (FailingState D)
failing_code {D} inner =
    code_by (D × (List ℕ × (ℕ × ℕ)))
    (coded× inner (coded× (coded_list coded_ℕ) (coded× coded_ℕ coded_ℕ)))
    (λ d. (d.inner, (d.fails, (d.calls, d.count))))
    (λ p. record { inner = p.0; fails = p.1.0; calls = p.1.1.0; count = p.1.1.1 })
    (λ _. refl)

-- a device over this one, called no time yet
abbrev pub uncalled_device : {D : Type 0} → D → List ℕ → FailingState D
uncalled_device inner fails = record { inner = inner; fails = fails; calls = 0; count = 0 }

-- the next call fails by its number
abbrev pub CallFails : {D : Type 0} → FailingState D → Type 0
CallFails d = Contains d.fails (one_more d.calls)

-- the device after a call that failed by its number: the inner one is as it was
abbrev pub after_failure : {D : Type 0} → FailingState D → FailingState D
after_failure d = record d { calls = one_more d.calls; count = one_more d.count }

-- the device after another call, which left this of the inner one
abbrev pub after_call : {D : Type 0} → FailingState D → D → FailingState D
after_call d inner = record d { inner = inner; calls = one_more d.calls }

-- A call fails by its number, and the inner device is as it was; or its number is not listed, and
-- then it fails only where the inner device counted a fault.
abbrev pub FailsAsListed : {D : Type 0} → (D → DeviceMeaning)
    → FailingState D → FailingState D → Type 0 → Type 0
FailsAsListed means before after Fails =
    (CallFails before × Fails × (after ≡ after_failure before))
    ⊎ ((CallFails before → ⊥) × (after ≡ after_call before after.inner)
    × (Fails → CountsFault (means before.inner) (means after.inner)))

-- what it means: what the inner one means, and its own failures are counted too, up to the greatest
-- count of 64 bits
abbrev pub failing_meaning : {D : Type 0} → (D → DeviceMeaning) → FailingState D → DeviceMeaning
failing_meaning means d =
    record (means d.inner) { faults = min ((means d.inner).faults + d.count) (2 ^ 64 - 1) }

-- what a device that has failed so often means, and fails at each call: it accepts nothing, owns no
-- key and tells nothing
abbrev pub broken_meaning : ℕ → DeviceMeaning
broken_meaning count = record {
  accepts = λ key bytes signature. false;
  owns = λ key. false;
  log = None;
  next_secret = None;
  faults = count;
  exact = false;
}
