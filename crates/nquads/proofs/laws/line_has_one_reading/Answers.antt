use Rattle.nquads.proofs.ReadingLines.{line_one_reading}
use Rattle.nquads.proofs.laws.line_has_one_reading.Goals as goal

pub returns : goal.returns
returns c = line_one_reading
