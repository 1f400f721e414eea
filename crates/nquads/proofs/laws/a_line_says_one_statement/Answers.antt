use Rattle.nquads.proofs.WholeLines.{says_one}
use Rattle.nquads.proofs.laws.a_line_says_one_statement.Goals as goal

pub returns : goal.returns
returns c = says_one
