use Rattle.proof_options.proofs.OneOutcome.{one_check, one_split}
use Rattle.proof_options.proofs.laws.options_have_one_outcome.Goals as goal

pub returns-clause-checked : goal.returns-clause-checked
returns-clause-checked c = one_check

pub returns-clause-split : goal.returns-clause-split
returns-clause-split c = one_split
