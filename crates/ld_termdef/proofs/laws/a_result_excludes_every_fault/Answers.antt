use Rattle.ld_termdef.proofs.Solutions.{no_fault}
use Rattle.ld_termdef.proofs.laws.a_result_excludes_every_fault.Goals as goal

pub returns : goal.returns
returns c = no_fault
