use Rattle.stmt_groups.proofs.ExampleLemmas.{split_first, split_loses_none, split_not_foreign, split_not_twice}
use Rattle.stmt_groups.proofs.laws.statements_are_mandatory_or_others.Goals as goal

pub returns-clause-rest : goal.returns-clause-rest
returns-clause-rest c = split_first

pub returns-clause-not_foreign : goal.returns-clause-not_foreign
returns-clause-not_foreign c = split_not_foreign

pub returns-clause-not_twice : goal.returns-clause-not_twice
returns-clause-not_twice c = split_not_twice

pub returns-clause-loses_none : goal.returns-clause-loses_none
returns-clause-loses_none c = split_loses_none
