-- Time stamps: which texts they are, and the instant of each. Data Integrity 1.0, 2.1, has them
-- as XML Schema's dateTimeStamp (XML Schema 1.1, part 2, 3.4.28); a stamp here is also one of RFC
-- 3339, 5.6, with capital `T` and `Z`, at most nine digits of a second, and no leap second.
use Rattle.std.specs.Prelude.{◌≡◌, ℕ, ◌+◌, ◌*◌, ◌/◌, ◌%◌, ◌<◌, ◌≤◌, ℤ, pos, neg_ℤ, ◌+ℤ◌, ◌-ℤ◌, ◌*ℤ◌, List, [], ◌∷◌, ◌++◌, map, length, codes, All, Option, Some, None, Result, Ok, Err}
use Rattle.proof_options.specs.declared.stamps.Stamp.{Stamp}
use Rattle.base_types.specs.declared.memory.Memory.{Memory}
use Rattle.proof_options.specs.Calendar.{Date, IsDate, epoch_day}

-- How far the clock that a stamp was read from is from UTC.
pub data Offset : Type 0 where
  -- `Z`: not at all
  utc : Offset
  -- hours and minutes ahead of UTC
  ahead : ℕ → ℕ → Offset
  -- hours and minutes behind UTC
  behind : ℕ → ℕ → Offset

-- What a stamp says: a date, a time of day, the digits of its fraction, and an offset.
pub record StampParts : Type 0 where
  pub date : Date
  pub hour : ℕ
  pub minute : ℕ
  pub second : ℕ
  pub fraction : List ℕ
  pub offset : Offset

-- ---- the text

-- a digit, and two and four digits of a number
abbrev pub digit : ℕ → ℕ
digit k = 48 + k

abbrev pub two_digits : ℕ → List ℕ
two_digits k = digit (k / 10) ∷ digit (k % 10) ∷ []

abbrev pub four_digits : ℕ → List ℕ
four_digits k = two_digits (k / 100) ++ two_digits (k % 100)

-- `YYYY-MM-DD`. -- RFC 3339, 5.6, full-date
abbrev pub date_text : Date → List ℕ
date_text d =
    four_digits d.year ++ codes "-" ++ two_digits d.month ++ codes "-" ++ two_digits d.day

-- `hh:mm`
abbrev pub clock_text : ℕ → ℕ → List ℕ
clock_text h m = two_digits h ++ codes ":" ++ two_digits m

-- Nothing, or a dot and digits. -- RFC 3339, 5.6, time-secfrac
abbrev pub fraction_text : List ℕ → List ℕ
fraction_text [] = []
fraction_text (d ∷ ds) = codes "." ++ map digit (d ∷ ds)

-- `Z`, or a sign and `hh:mm`. -- RFC 3339, 5.6, time-offset
abbrev pub offset_text : Offset → List ℕ
offset_text utc = codes "Z"
offset_text (ahead h m) = codes "+" ++ clock_text h m
offset_text (behind h m) = codes "-" ++ clock_text h m

-- The text of a stamp. -- RFC 3339, 5.6, date-time
unfoldable pub stamp_text : StampParts → List ℕ
stamp_text p =
    date_text p.date ++ codes "T" ++ clock_text p.hour p.minute ++ codes ":"
    ++ two_digits p.second ++ fraction_text p.fraction ++ offset_text p.offset

-- ---- which parts there are

-- At most nine digits.
pub record IsFraction (digits : List ℕ) : Type 0 where
  pub at_most : length digits ≤ 9
  pub each : All (λ d. d < 10) digits

-- At most 14:00 to either side. -- XML Schema 1.1, part 2, 3.3.7.1, timezoneFrag
abbrev pub IsOffset : Offset → Type 0
IsOffset utc = Unit {0}
IsOffset (ahead h m) = (m < 60) × (60 * h + m ≤ 840)
IsOffset (behind h m) = (m < 60) × (60 * h + m ≤ 840)

-- The date exists, and so does the time of day. -- RFC 3339, 5.7
pub record IsStampOf (p : StampParts) : Type 0 where
  pub date : IsDate p.date
  pub hour : p.hour < 24
  pub minute : p.minute < 60
  pub second : p.second < 60
  pub fraction : IsFraction p.fraction
  pub offset : IsOffset p.offset

-- ---- the instant

-- what digits count, where the first counts so many and each a tenth of the one before
abbrev pub tenths : ℕ → List ℕ → ℕ
tenths unit [] = 0
tenths unit (d ∷ ds) = unit * d + tenths (unit / 10) ds

-- the nanoseconds of a fraction
abbrev pub fraction_nanoseconds : List ℕ → ℕ
fraction_nanoseconds digits = tenths 100_000_000 digits

-- the seconds by which the clock is ahead of UTC
abbrev pub offset_seconds : Offset → ℤ
offset_seconds utc = pos 0
offset_seconds (ahead h m) = pos (3600 * h + 60 * m)
offset_seconds (behind h m) = neg_ℤ (pos (3600 * h + 60 * m))

-- the seconds of a time of day
abbrev pub seconds_of_day : StampParts → ℕ
seconds_of_day p = 3600 * p.hour + 60 * p.minute + p.second

-- The instant of a stamp, in nanoseconds from 1970-01-01T00:00:00Z, each day with 86,400 seconds.
-- XML Schema 1.1, part 2, E.3.4
unfoldable pub instant_of : StampParts → ℤ
instant_of p =
    (epoch_day p.date *ℤ pos 86_400 +ℤ pos (seconds_of_day p) -ℤ offset_seconds p.offset)
    *ℤ pos 1_000_000_000 +ℤ pos (fraction_nanoseconds p.fraction)

-- The text is a stamp, and this is its instant.
pub record IsStamp (text : List ℕ) (instant : ℤ) : Type 0 where
  pub parts : StampParts
  pub may_be : IsStampOf parts
  pub spelled : text ≡ stamp_text parts
  pub meant : instant ≡ instant_of parts

-- The outcomes of reading a text as a stamp; out of memory is free.
abbrev pub ReadsStamp : List ℕ → Result (Option Stamp) Memory → Type 0
ReadsStamp text (Ok (Some stamp)) = (stamp.text ≡ text) × IsStamp text stamp.nanosecond
ReadsStamp text (Ok None) = (instant : ℤ) → IsStamp text instant → ⊥
ReadsStamp text (Err fault) = Unit {0}
