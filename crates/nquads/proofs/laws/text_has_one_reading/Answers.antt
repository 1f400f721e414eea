use Rattle.nquads.proofs.ReadingDatasets.{text_determines_lines, text_determines_statements}
use Rattle.nquads.proofs.ReadingSame.{text_from_statements}
use Rattle.nquads.proofs.laws.text_has_one_reading.Goals as goal

pub returns-clause-lines : goal.returns-clause-lines
returns-clause-lines c = text_determines_lines

pub returns-clause-statements : goal.returns-clause-statements
returns-clause-statements c = text_determines_statements

pub returns-clause-text : goal.returns-clause-text
returns-clause-text c = text_from_statements
