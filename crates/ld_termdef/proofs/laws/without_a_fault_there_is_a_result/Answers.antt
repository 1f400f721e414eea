use Rattle.ld_termdef.proofs.Existence.{result}
use Rattle.ld_termdef.proofs.laws.without_a_fault_there_is_a_result.Goals as goal

pub returns : goal.returns
returns c = λ g fine. result g fine
