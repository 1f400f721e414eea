use Rattle.stmt_groups.proofs.SignData.{example_sign_data}
use Rattle.stmt_groups.proofs.laws.sign_data_of_an_example.Goals as goal

pub returns : goal.returns
returns c = example_sign_data
