use Rattle.nquads.proofs.ReadingDatasets.{line_names_statement_in}
use Rattle.nquads.proofs.laws.line_names_its_statement.Goals as goal

pub returns : goal.returns
returns c = line_names_statement_in
