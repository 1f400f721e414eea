use Rattle.stmt_groups.proofs.Covering.{premises_cover}
use Rattle.stmt_groups.proofs.laws.premises_cover_a_good_proof.Goals as goal

pub returns : goal.returns
returns c = premises_cover
