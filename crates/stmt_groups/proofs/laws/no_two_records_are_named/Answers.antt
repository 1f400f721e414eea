use Rattle.stmt_groups.proofs.Naming.{one_named}
use Rattle.stmt_groups.proofs.laws.no_two_records_are_named.Goals as goal

pub returns : goal.returns
returns c = one_named
