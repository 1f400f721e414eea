use Rattle.nquads.proofs.ReadingLines.{IsLine-line}
use Rattle.nquads.proofs.laws.line_is_one_line.Goals as goal

pub returns : goal.returns
returns c = IsLine-line
