use Rattle.proof_options.proofs.KitCalendar.{epoch_day-kit}
use Rattle.proof_options.proofs.laws.the_kit_has_this_calendar.Goals as goal

pub returns-clause-days : goal.returns-clause-days
returns-clause-days c = epoch_day-kit
