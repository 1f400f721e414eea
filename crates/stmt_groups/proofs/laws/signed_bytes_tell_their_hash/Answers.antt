use Rattle.stmt_groups.proofs.HashLemmas.{told}
use Rattle.stmt_groups.proofs.laws.signed_bytes_tell_their_hash.Goals as goal

pub returns : goal.returns
returns c = told
