use Rattle.stmt_groups.proofs.Revealing.{lies_between}
use Rattle.stmt_groups.proofs.laws.a_revealed_part_lies_between.Goals as goal

pub returns : goal.returns
returns c = lies_between
