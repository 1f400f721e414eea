use Rattle.nquads.proofs.ReadingRenamings.{Same-from_one_to_one, one_to_one-from_Same}
use Rattle.nquads.proofs.laws.same_is_a_map_one_to_one.Goals as goal

pub returns-clause-from_map : goal.returns-clause-from_map
returns-clause-from_map c = Same-from_one_to_one

pub returns-clause-to_map : goal.returns-clause-to_map
returns-clause-to_map c = one_to_one-from_Same
