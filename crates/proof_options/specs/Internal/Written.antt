-- The parts that numbers and digits written in a stamp make, and what is known of their instant.
use Rattle.std.specs.Prelude.{◌≡◌, ℕ, ◌<◌, ℤ, List, Option, Some, None}
use Rattle.proof_options.specs.declared.reading.Day.{Day}
use Rattle.proof_options.specs.declared.reading.Clock.{Clock}
use Rattle.proof_options.specs.declared.reading.Shift.{Shift}
use Rattle.proof_options.specs.declared.reading.Shift.TheVariants.{Utc, Ahead, Behind}
use Rattle.proof_options.specs.declared.reading.Written.{Written}
use Rattle.proof_options.specs.Calendar.{Date}
use Rattle.proof_options.specs.Stamps.{Offset, utc, ahead, behind, StampParts, IsFraction, IsStampOf, fraction_nanoseconds, instant_of}

abbrev pub date_of : Day → Date
date_of d = record { year = d.year; month = d.month; day = d.day }

abbrev pub offset_of : Shift → Offset
offset_of Utc = utc
offset_of (Ahead c) = ahead c.hour c.minute
offset_of (Behind c) = behind c.hour c.minute

-- there is such a time of day
pub record IsTime (clock : Clock) (second : ℕ) : Type 0 where
  pub hour : clock.hour < 24
  pub minute : clock.minute < 60
  pub seconds : second < 60

-- with these digits of a fraction
abbrev pub parts_with : Written → List ℕ → StampParts
parts_with w fraction = record {
  date = date_of w.day;
  hour = w.clock.hour;
  minute = w.clock.minute;
  second = w.second;
  fraction = fraction;
  offset = offset_of w.shift;
}

-- the parts exist, whatever the digits, and this is their instant; or they do not
abbrev pub Means : Written → Option ℤ → Type 0
Means w None = (fraction : List ℕ) → IsStampOf (parts_with w fraction) → ⊥
Means w (Some instant) =
    (fraction : List ℕ) → IsFraction fraction → fraction_nanoseconds fraction ≡ w.nanosecond
    → IsStampOf (parts_with w fraction) × (instant ≡ instant_of (parts_with w fraction))
