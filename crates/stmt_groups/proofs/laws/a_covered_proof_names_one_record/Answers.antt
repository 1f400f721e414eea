use Rattle.stmt_groups.proofs.Naming.{covered_names_one}
use Rattle.stmt_groups.proofs.laws.a_covered_proof_names_one_record.Goals as goal

pub returns : goal.returns
returns c = λ history accepts v document options good covered. covered_names_one history accepts v good covered document options
