use Rattle.stmt_groups.proofs.Covering.{record_covers}
use Rattle.stmt_groups.proofs.laws.a_record_covers_what_it_holds_of.Goals as goal

pub returns : goal.returns
returns c = λ r accepts v are apart issuer key mandatory others options. record_covers r accepts v issuer key mandatory others options are apart
