use Rattle.nquads.proofs.ReadingTerms.{spelling_one_reading}
use Rattle.nquads.proofs.laws.spelling_has_one_reading.Goals as goal

pub returns : goal.returns
returns c = spelling_one_reading
