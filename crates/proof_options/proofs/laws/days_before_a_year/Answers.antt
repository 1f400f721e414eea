use Rattle.proof_options.proofs.KitCalendar.{days_before_year-closed}
use Rattle.proof_options.proofs.laws.days_before_a_year.Goals as goal

pub returns : goal.returns
returns c = days_before_year-closed
