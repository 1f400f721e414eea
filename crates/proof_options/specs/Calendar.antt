-- The Gregorian calendar: which dates there are, and how many days lie between them.
use Rattle.std.specs.Prelude.{ℕ, zero, suc, ◌+◌, ◌-◌, ◌%◌, ℤ, pos, ◌-ℤ◌, Bool, not, ◌&&◌, ◌||◌, ◌==◌, if◌then◌else◌, List, [], ◌∷◌, sum, take, slice_index}
use Rattle.std.specs.Int.{IsInRange}

-- A date by its numbers, whether the calendar has it or not.
pub record Date : Type 0 where
  pub year : ℕ
  pub month : ℕ
  pub day : ℕ

-- Every fourth year has a leap day, but of the centuries only every fourth.
-- RFC 3339, appendix C
abbrev pub is_leap : ℕ → Bool
is_leap y = (y % 4 == 0) && (not (y % 100 == 0) || (y % 400 == 0))

-- The days of the months of a year, from January on. -- RFC 3339, 5.7
abbrev pub month_lengths : ℕ → List ℕ
month_lengths y =
    31 ∷ (if is_leap y then 29 else 28) ∷ 31 ∷ 30 ∷ 31 ∷ 30 ∷ 31 ∷ 31 ∷ 30 ∷ 31 ∷ 30 ∷ 31 ∷ []

-- the days of one month, from 1 for January to 12 for December
abbrev pub month_length : ℕ → ℕ → ℕ
month_length y m = slice_index (month_lengths y) (m - 1)

-- The calendar has the date, and its year has four digits and is not 0000. -- RFC 3339, 5.6 and 5.7
pub record IsDate (d : Date) : Type 0 where
  pub year : IsInRange 1 9999 d.year
  pub month : IsInRange 1 12 d.month
  pub day : IsInRange 1 (month_length d.year d.month) d.day

-- the days of a year
abbrev pub year_length : ℕ → ℕ
year_length y = sum (month_lengths y)

-- the days from 1 January of the year 0 to 1 January of a year
unfoldable pub days_before_year : ℕ → ℕ
days_before_year zero = 0
days_before_year (suc y) = days_before_year y + year_length y

-- the days from 1 January of the year 0 to a date
unfoldable pub days_before : Date → ℕ
days_before d =
    days_before_year d.year + sum (take (d.month - 1) (month_lengths d.year)) + (d.day - 1)

-- 1 January 1970
abbrev pub epoch : Date
epoch = record { year = 1970; month = 1; day = 1 }

-- How many days after 1 January 1970 a date is; a number below 0 before it.
unfoldable pub epoch_day : Date → ℤ
epoch_day d = pos (days_before d) -ℤ pos (days_before epoch)
