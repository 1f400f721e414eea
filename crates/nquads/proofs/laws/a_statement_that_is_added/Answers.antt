use Rattle.nquads.proofs.AddedLemmas.{Adds-one}
use Rattle.nquads.proofs.laws.a_statement_that_is_added.Goals as goal

pub returns : goal.returns
returns c = Adds-one
