use Rattle.std.proofs.Common.{refl}
use Rattle.proof_options.specs.Calendar.{days_before_year, days_before, epoch_day}
use Rattle.proof_options.proofs.laws.worked_dates.Goals as goal

pub returns-clause-epoch : goal.returns-clause-epoch
unfolding days_before_year days_before epoch_day
returns-clause-epoch c = refl

pub returns-clause-before : goal.returns-clause-before
unfolding days_before_year days_before epoch_day
returns-clause-before c = refl

pub returns-clause-leap_day : goal.returns-clause-leap_day
unfolding days_before_year days_before epoch_day
returns-clause-leap_day c = refl

pub returns-clause-after_leap_day : goal.returns-clause-after_leap_day
unfolding days_before_year days_before epoch_day
returns-clause-after_leap_day c = refl

pub returns-clause-first : goal.returns-clause-first
unfolding days_before_year days_before epoch_day
returns-clause-first c = refl

pub returns-clause-last : goal.returns-clause-last
unfolding days_before_year days_before epoch_day
returns-clause-last c = refl
