use Rattle.stmt_groups.proofs.Covering.{exact_forges_nothing}
use Rattle.stmt_groups.proofs.laws.an_exact_device_forges_nothing.Goals as goal

pub returns : goal.returns
returns c = exact_forges_nothing
