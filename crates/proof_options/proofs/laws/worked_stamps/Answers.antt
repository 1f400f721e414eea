use Rattle.std.proofs.Common.{◌<◌, ℕ, [], ◌∷◌, lit<, lit≤, refl}
use Rattle.std.specs.Prelude.{All}
use Rattle.std.proofs.lemmas.List.Elements.{All-nil, All-cons}
use Rattle.proof_options.specs.Calendar.{days_before_year, days_before, epoch_day}
use Rattle.proof_options.specs.Stamps.{utc, ahead, behind, stamp_text, instant_of}
use Rattle.proof_options.proofs.laws.worked_stamps.Goals as goal

two_digits_each : (a b : ℕ) → a < 10 → b < 10 → All (λ d. d < 10) (a ∷ b ∷ [])
two_digits_each a b p q = All-cons (λ d. d < 10) a (b ∷ []) p (All-cons (λ d. d < 10) b [] q (All-nil (λ d. d < 10)))

pub returns-clause-epoch : goal.returns-clause-epoch
unfolding stamp_text instant_of days_before_year days_before epoch_day
returns-clause-epoch c = record {
  parts = record { date = record { year = 1970; month = 1; day = 1 }; hour = 0; minute = 0; second = 0; fraction = []; offset = utc };
  may_be = record {
    date = record { year = (lit≤ tt, lit≤ tt); month = (lit≤ tt, lit≤ tt); day = (lit≤ tt, lit≤ tt) };
    hour = lit< tt;
    minute = lit< tt;
    second = lit< tt;
    fraction = record { at_most = lit≤ tt; each = All-nil (λ d. d < 10) };
    offset = tt;
  };
  spelled = refl;
  meant = refl;
}

pub returns-clause-fraction : goal.returns-clause-fraction
unfolding stamp_text instant_of days_before_year days_before epoch_day
returns-clause-fraction c = record {
  parts = record { date = record { year = 1985; month = 4; day = 12 }; hour = 23; minute = 20; second = 50; fraction = 5 ∷ 2 ∷ []; offset = utc };
  may_be = record {
    date = record { year = (lit≤ tt, lit≤ tt); month = (lit≤ tt, lit≤ tt); day = (lit≤ tt, lit≤ tt) };
    hour = lit< tt;
    minute = lit< tt;
    second = lit< tt;
    fraction = record { at_most = lit≤ tt; each = two_digits_each 5 2 (lit< tt) (lit< tt) };
    offset = tt;
  };
  spelled = refl;
  meant = refl;
}

pub returns-clause-behind : goal.returns-clause-behind
unfolding stamp_text instant_of days_before_year days_before epoch_day
returns-clause-behind c = record {
  parts = record { date = record { year = 1996; month = 12; day = 19 }; hour = 16; minute = 39; second = 57; fraction = []; offset = behind 8 0 };
  may_be = record {
    date = record { year = (lit≤ tt, lit≤ tt); month = (lit≤ tt, lit≤ tt); day = (lit≤ tt, lit≤ tt) };
    hour = lit< tt;
    minute = lit< tt;
    second = lit< tt;
    fraction = record { at_most = lit≤ tt; each = All-nil (λ d. d < 10) };
    offset = (lit< tt, lit≤ tt);
  };
  spelled = refl;
  meant = refl;
}

pub returns-clause-ahead : goal.returns-clause-ahead
unfolding stamp_text instant_of days_before_year days_before epoch_day
returns-clause-ahead c = record {
  parts = record { date = record { year = 1937; month = 1; day = 1 }; hour = 12; minute = 0; second = 27; fraction = 8 ∷ 7 ∷ []; offset = ahead 0 20 };
  may_be = record {
    date = record { year = (lit≤ tt, lit≤ tt); month = (lit≤ tt, lit≤ tt); day = (lit≤ tt, lit≤ tt) };
    hour = lit< tt;
    minute = lit< tt;
    second = lit< tt;
    fraction = record { at_most = lit≤ tt; each = two_digits_each 8 7 (lit< tt) (lit< tt) };
    offset = (lit< tt, lit≤ tt);
  };
  spelled = refl;
  meant = refl;
}
