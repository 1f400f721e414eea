-- The parts of a stamp's text by what stands at the front: each reading gives what was read, and
-- what follows. The numbers that are read may be of no date and no time of day.
use Rattle.std.specs.Prelude.{ℕ, ◌+◌, ◌-◌, ◌*◌, nat_le, Bool, ◌&&◌, ◌==◌, if◌then◌else◌, List, [], ◌∷◌, length, Option, Some, None, option_map}
use denote.Ref.{Bor}
use Rattle.proof_options.specs.declared.reading.Day.{Day}
use Rattle.proof_options.specs.declared.reading.Clock.{Clock}
use Rattle.proof_options.specs.declared.reading.Shift.{Shift}
use Rattle.proof_options.specs.declared.reading.Shift.TheVariants.{Utc, Ahead, Behind}
use Rattle.proof_options.specs.declared.reading.Written.{Written}
use Rattle.proof_options.specs.Stamps.{fraction_nanoseconds}

-- what was read at a front, and what follows it
abbrev pub Front : Type 0 → Type 0
Front A = Option (A × List ℕ)

-- the same of what code answers, whose rest is borrowed
abbrev pub seen : {A : Type 0} → A × Bor (List ℕ) → A × List ℕ
seen r = (r.0, r.1.now)

-- what a reading gives, taken on
abbrev pub and_then : {A B : Type 0} → Front A → (A → List ℕ → Option B) → Option B
and_then None next = None
and_then (Some (a, rest)) next = next a rest

-- ---- digits

-- `0` to `9`
abbrev pub is_digit : ℕ → Bool
is_digit b = nat_le 48 b && nat_le b 57

abbrev pub digit_from : List ℕ → Front ℕ
digit_from [] = None
digit_from (b ∷ bs) = if is_digit b then Some (b - 48, bs) else None

abbrev pub two_from : List ℕ → Front ℕ
two_from text = and_then (digit_from text) (λ tens bs.
    and_then (digit_from bs) (λ ones cs. Some (10 * tens + ones, cs)))

abbrev pub four_from : List ℕ → Front ℕ
four_from text = and_then (two_from text) (λ high bs.
    and_then (two_from bs) (λ low cs. Some (100 * high + low, cs)))

-- two digits behind a mark
abbrev pub two_after : ℕ → List ℕ → Front ℕ
two_after mark [] = None
two_after mark (b ∷ bs) = if b == mark then two_from bs else None

-- ---- dates and times

abbrev pub day_from : List ℕ → Front Day
day_from text = and_then (four_from text) (λ y bs. and_then (two_after 45 bs) (λ m cs.
    and_then (two_after 45 cs) (λ d ds. Some (record { year = y; month = m; day = d }, ds))))

-- an hour behind a mark, and a minute
abbrev pub clock_after : ℕ → List ℕ → Front Clock
clock_after mark text = and_then (two_after mark text) (λ h bs.
    and_then (two_after 58 bs) (λ m cs. Some (record { hour = h; minute = m }, cs)))

-- ---- fractions

-- the digits at the front
abbrev pub run : List ℕ → List ℕ
run [] = []
run (b ∷ bs) = if is_digit b then (b - 48) ∷ run bs else []

-- what follows them
abbrev pub after_run : List ℕ → List ℕ
after_run [] = []
after_run (b ∷ bs) = if is_digit b then after_run bs else b ∷ bs

-- the nanoseconds of one to nine digits
abbrev pub run_from : List ℕ → Front ℕ
run_from text =
    if nat_le 1 (length (run text)) && nat_le (length (run text)) 9
    then Some (fraction_nanoseconds (run text), after_run text) else None

-- a dot and digits, or nothing
abbrev pub fraction_from : List ℕ → Front ℕ
fraction_from [] = Some (0, [])
fraction_from (b ∷ bs) = if b == 46 then run_from bs else Some (0, b ∷ bs)

-- ---- offsets

-- what was read, where nothing follows
abbrev pub at_end : {A : Type 0} → Front A → Option A
at_end None = None
at_end (Some (a, [])) = Some a
at_end (Some (a, b ∷ bs)) = None

abbrev pub shift_from : List ℕ → Option Shift
shift_from [] = None
shift_from (b ∷ bs) =
    if b == 90 then at_end (Some (Utc, bs))
    else if b == 43 then option_map Ahead (at_end (clock_after 43 (b ∷ bs)))
    else option_map Behind (at_end (clock_after 45 (b ∷ bs)))

-- ---- the whole

abbrev pub written_from : List ℕ → Option Written
written_from text = and_then (day_from text) (λ day bs.
    and_then (clock_after 84 bs) (λ clock cs. and_then (two_after 58 cs) (λ second ds.
    and_then (fraction_from ds) (λ nanosecond es. option_map (λ shift. record {
      day = day;
      clock = clock;
      second = second;
      nanosecond = nanosecond;
      shift = shift;
    }) (shift_from es)))))
