use Rattle.ld_termdef.proofs.Solutions.{one_result}
use Rattle.ld_termdef.proofs.laws.a_context_object_has_one_result.Goals as goal

pub returns : goal.returns
returns c = one_result
