use Rattle.ld_termdef.proofs.Kept.{protected_stays}
use Rattle.ld_termdef.proofs.laws.protected_terms_stay.Goals as goal

pub returns : goal.returns
returns c = protected_stays
