use Rattle.stmt_groups.proofs.IssueLemmas.{value_names_one}
use Rattle.stmt_groups.proofs.laws.a_good_value_names_one_record.Goals as goal

pub returns : goal.returns
returns c = value_names_one
