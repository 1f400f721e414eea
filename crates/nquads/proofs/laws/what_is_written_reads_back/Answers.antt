use Rattle.nquads.proofs.ReadBack.{reads_back}
use Rattle.nquads.proofs.laws.what_is_written_reads_back.Goals as goal

pub returns : goal.returns
returns c = reads_back
