use Rattle.proof_options.proofs.Whole.{one_instant}
use Rattle.proof_options.proofs.laws.a_stamp_has_one_instant.Goals as goal

pub returns : goal.returns
returns c = one_instant
