use Rattle.ld_termdef.proofs.Solutions.{needs_no_itself}
use Rattle.ld_termdef.proofs.laws.in_a_result_no_term_needs_itself.Goals as goal

pub returns : goal.returns
returns c = needs_no_itself
