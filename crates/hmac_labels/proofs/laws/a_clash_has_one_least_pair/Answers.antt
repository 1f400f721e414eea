use Rattle.hmac_labels.proofs.Searching.{some_least}
use Rattle.hmac_labels.proofs.laws.a_clash_has_one_least_pair.Goals as goal

pub returns-clause-some : goal.returns-clause-some
returns-clause-some c = some_least
