use Rattle.stmt_groups.proofs.BadProofs.{index_over, never_good, statement_key_accepted}
use Rattle.stmt_groups.proofs.laws.bad_proofs_are_not_good.Goals as goal

pub returns-clause-empty : goal.returns-clause-empty
returns-clause-empty c = λ accepts v none good. good.not_empty none

pub returns-clause-index : goal.returns-clause-index
returns-clause-index c = index_over

pub returns-clause-count : goal.returns-clause-count
returns-clause-count c = λ accepts v apart good. apart good.counts

pub returns-clause-never : goal.returns-clause-never
returns-clause-never c = never_good

pub returns-clause-statement : goal.returns-clause-statement
returns-clause-statement c = statement_key_accepted
