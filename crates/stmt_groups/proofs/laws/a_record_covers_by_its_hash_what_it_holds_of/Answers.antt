use Rattle.stmt_groups.proofs.HashCovering.{record_covers_by}
use Rattle.stmt_groups.proofs.laws.a_record_covers_by_its_hash_what_it_holds_of.Goals as goal

pub returns : goal.returns
returns c = λ r accepts v are sized apart issuer key mandatory others options. record_covers_by r accepts v issuer key mandatory others options are sized apart
