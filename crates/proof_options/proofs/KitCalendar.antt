-- The calendar of the kit, which counts from the year -10000, and this one, which counts from the year 0.
use Rattle.std.proofs.Common.{◌≡◌, ℕ, zero, suc, ◌+◌, ◌-◌, ◌*◌, ◌/◌, ◌<◌, ◌≤◌, pos, take, refl, arith, lit≤}
use Rattle.std.specs.Prelude.{sum}
use Rattle.std.proofs.lemmas.Bool.Decides.{nat_tests}
use Rattle.jiff_core.specs.Calendar.{days_in_month, days_of_years, days_of_months, day_count, days_from_civil}
use Rattle.jiff_core.specs.Calendar as kit
use Rattle.jiff_core.specs.March.{march_days}
use Rattle.jiff_core.proofs.SignedLemmas.{signed_arith}
use Rattle.jiff_core.proofs.MarchLemmas.{leap_day, leap_day-shift, days_of_years-suc, days_of_years-march_days}
use Rattle.proof_options.specs.Calendar.{Date, IsDate, month_lengths, month_length, year_length, days_before_year, days_before, epoch, epoch_day}

-- a year has as many days as the kit's
pub year_length-leap_day : (y : ℕ) → year_length y ≡ 365 + leap_day (pos y)
year_length-leap_day y = grind (arith, nat_tests)

-- the days before the next year
pub days_before_year-suc : (y : ℕ) → days_before_year (suc y) ≡ days_before_year y + year_length y
unfolding days_before_year
days_before_year-suc y = refl

days_of_years-10000 : days_of_years 10000 ≡ 3_652_425
days_of_years-10000 =
    let known : march_days 10000 ≡ 3_652_425 = refl in
    let leap : leap_day (pos 10000) ≡ 1 = refl in
    omega (arith, days_of_years-march_days 10000)

-- the days before a year are those of the kit, but for its first 10,000 years
pub days_before_year-kit : (y : ℕ) → days_of_years (y + 10000) ≡ days_before_year y + 3_652_425
unfolding days_before_year
days_before_year-kit zero = days_of_years-10000
days_before_year-kit (suc y) =
    let next : suc y + 10000 ≡ suc (y + 10000) = omega arith in
    let shift = leap_day-shift (pos y) (y + 10000) refl in
    rw next (omega (arith, days_of_years-suc (y + 10000), days_before_year-kit y, year_length-leap_day y))

-- the months before this one
pub months-kit : (y m : ℕ) → m < 12 → days_of_months (pos y) m ≡ sum (take m (month_lengths y))
unfolding days_of_months
months-kit y zero h = grind arith
months-kit y (suc zero) h = grind arith
months-kit y (suc (suc zero)) h = grind arith
months-kit y (suc (suc (suc zero))) h = grind arith
months-kit y (suc (suc (suc (suc zero)))) h = grind arith
months-kit y (suc (suc (suc (suc (suc zero))))) h = grind arith
months-kit y (suc (suc (suc (suc (suc (suc zero)))))) h = grind arith
months-kit y (suc (suc (suc (suc (suc (suc (suc zero))))))) h = grind arith
months-kit y (suc (suc (suc (suc (suc (suc (suc (suc zero)))))))) h = grind arith
months-kit y (suc (suc (suc (suc (suc (suc (suc (suc (suc zero))))))))) h = grind arith
months-kit y (suc (suc (suc (suc (suc (suc (suc (suc (suc (suc zero)))))))))) h = grind arith
months-kit y (suc (suc (suc (suc (suc (suc (suc (suc (suc (suc (suc zero))))))))))) h = grind arith
months-kit y (suc (suc (suc (suc (suc (suc (suc (suc (suc (suc (suc (suc n)))))))))))) h = absurd (omega arith)

-- the days before a date
pub days_before-kit : (d : Date) → IsDate d → day_count (pos d.year) d.month d.day ≡ days_before d + 3_652_425
unfolding day_count days_before
days_before-kit d is =
    let h : d.month - 1 < 12 = omega (arith, is.month.1, is.month.0) in
    omega (arith, days_before_year-kit d.year, months-kit d.year (d.month - 1) h, is.day.0)

epoch_is : IsDate epoch
epoch_is = record { year = (lit≤ tt, lit≤ tt); month = (lit≤ tt, lit≤ tt); day = (lit≤ tt, lit≤ tt) }

-- a month has as many days as the kit's
pub month_length-kit : (y m : ℕ) → 1 ≤ m → m ≤ 12 → month_length y m ≡ days_in_month (pos y) m
month_length-kit y m low high = grind (arith, nat_tests)

-- a date of the kit, from the year 1 on, is one here
pub date-kit : (d : Date) → 1 ≤ d.year → kit.IsDate (pos d.year) (pos d.month) (pos d.day) → IsDate d
date-kit d first h =
    let low : 1 ≤ d.month = omega (arith, signed_arith, h.1) in
    let high : d.month ≤ 12 = omega (arith, signed_arith, h.1) in
    record {
      year = (first, omega (arith, signed_arith, h.0));
      month = (low, high);
      day = (omega (arith, signed_arith, h.2), omega (arith, signed_arith, h.2, month_length-kit d.year d.month low high));
    }

-- the day number of a date
pub epoch_day-kit : (d : Date) → IsDate d → days_from_civil (pos d.year) d.month d.day ≡ epoch_day d
unfolding days_from_civil epoch_day
epoch_day-kit d is = omega (arith, signed_arith, days_before-kit d is, days_before-kit epoch epoch_is)

-- the days before a year in closed form
pub days_before_year-closed : (y : ℕ) → days_before_year (y + 1) ≡ 366 + 365 * y + y / 4 + y / 400 - y / 100
days_before_year-closed zero = unfold days_before_year in refl
days_before_year-closed (suc y) =
    let next : suc y + 1 ≡ suc (y + 1) = omega arith in
    rw next (closed_next y (days_before_year (y + 1)) (days_before_year-closed y) (days_before_year-suc (y + 1)))
  where
    closed_next : (y n : ℕ) → n ≡ 366 + 365 * y + y / 4 + y / 400 - y / 100 → days_before_year (suc (y + 1)) ≡ n + year_length (y + 1) → days_before_year (suc (y + 1)) ≡ 366 + 365 * suc y + suc y / 4 + suc y / 400 - suc y / 100
    closed_next y n is more = grind (arith, nat_tests)
