use Rattle.ld_termdef.proofs.Laying.{overlay_of-found, overlay_of-rises}
use Rattle.ld_termdef.proofs.laws.what_is_laid_over_counts.Goals as goal

pub returns-clause-found : goal.returns-clause-found
returns-clause-found c = overlay_of-found

pub returns-clause-rises : goal.returns-clause-rises
returns-clause-rises c = overlay_of-rises
