use Rattle.nquads.proofs.ReadingTerms.{spelled_one_reading}
use Rattle.nquads.proofs.laws.spelled_statement_has_one_reading.Goals as goal

pub returns : goal.returns
returns c = spelled_one_reading
