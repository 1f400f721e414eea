-- A device that fails at chosen calls: what it counts, and what a call leaves of its meaning.
use Rattle.std.proofs.Common.{◌≡◌, ℕ, ◌+◌, ◌-◌, ◌≤◌, ◌^◌, min, inl, inr, refl, ap, arith}
use Rattle.std.proofs.lemmas.Bool.{cases_lt}
use Rattle.base_types.specs.Counts.{HasRisen, one_more}
use Rattle.key_device.specs.Devices.{DeviceMeaning, MeansSame, CountsFault}
use Rattle.key_device.specs.FailingDevices.{FailingState, after_failure, after_call, failing_meaning}

-- ---- counts

-- a failure of its own is a rise
pub own-HasRisen : (faults count : ℕ)
    → HasRisen (min (faults + count) (2 ^ 64 - 1)) (min (faults + one_more count) (2 ^ 64 - 1))
own-HasRisen faults count = elim (cases_lt (faults + count) (2 ^ 64 - 1)) [
  | inl below ↦ inl (omega arith)
  | inr full ↦ inr (omega arith)
]

-- and so no fall
pub own-le : (faults count : ℕ) → min (faults + count) (2 ^ 64 - 1) ≤ min (faults + one_more count) (2 ^ 64 - 1)
own-le faults count = omega arith

-- a failure of the inner device is one too
pub inner-HasRisen : (before after count : ℕ) → HasRisen before after
    → HasRisen (min (before + count) (2 ^ 64 - 1)) (min (after + count) (2 ^ 64 - 1))
inner-HasRisen before after count (inl rise) = elim (cases_lt (before + count) (2 ^ 64 - 1)) [
  | inl below ↦ inl (omega arith)
  | inr full ↦ inr (omega arith)
]
inner-HasRisen before after count (inr full) = inr (omega arith)

-- where the inner device's count does not fall, neither does this one
pub inner-le : (before after count : ℕ) → before ≤ after
    → min (before + count) (2 ^ 64 - 1) ≤ min (after + count) (2 ^ 64 - 1)
inner-le before after count le = omega arith

-- ---- a call that fails by its number

module _ {D : Type 0} (means : D → DeviceMeaning) (before after : FailingState D) where
  pub failure-MeansSame : after ≡ after_failure before → MeansSame (failing_meaning means before) (failing_meaning means after)
  failure-MeansSame is = rw is record {
    acceptance = λ key bytes s. refl;
    ownership = λ key. refl;
    log = refl;
    exactness = refl;
  }

  pub failure-rises : after ≡ after_failure before → CountsFault (failing_meaning means before) (failing_meaning means after)
  failure-rises is = rw is (own-HasRisen (means before.inner).faults before.count)

  pub failure-le : after ≡ after_failure before → (failing_meaning means before).faults ≤ (failing_meaning means after).faults
  failure-le is = rw is (own-le (means before.inner).faults before.count)

  -- ---- a call that goes to the inner device

  pub call-MeansSame : MeansSame (means before.inner) (means after.inner)
      → MeansSame (failing_meaning means before) (failing_meaning means after)
  call-MeansSame same = record {
    acceptance = same.acceptance;
    ownership = same.ownership;
    log = same.log;
    exactness = same.exactness;
  }

  pub call-rises : after ≡ after_call before after.inner → CountsFault (means before.inner) (means after.inner)
      → CountsFault (failing_meaning means before) (failing_meaning means after)
  call-rises is rise =
      let counts : after.count ≡ before.count = ap (λ (d : FailingState D). d.count) is in
      rw counts (inner-HasRisen (means before.inner).faults (means after.inner).faults before.count rise)

  pub call-le : after ≡ after_call before after.inner → (means before.inner).faults ≤ (means after.inner).faults
      → (failing_meaning means before).faults ≤ (failing_meaning means after).faults
  call-le is le =
      let counts : after.count ≡ before.count = ap (λ (d : FailingState D). d.count) is in
      rw counts (inner-le (means before.inner).faults (means after.inner).faults before.count le)

-- the device whose inner one was called is the one before, one call on, with what was left of the inner one
pub inner_called : {D : Type 0} (old counted : FailingState D) (inner : D) → counted ≡ after_call old old.inner
    → record counted { inner = inner } ≡ after_call old inner
inner_called {D} old counted inner is = ap (λ (d : FailingState D). record d { inner = inner }) is

pub ruleset counting = (failure-MeansSame, failure-rises, failure-le, call-MeansSame, call-rises, call-le, inner_called)
