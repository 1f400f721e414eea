use Rattle.nquads.proofs.ReadingLines.{one_split}
use Rattle.nquads.proofs.laws.joined_lines_split_once.Goals as goal

pub returns : goal.returns
returns c = one_split
