use Rattle.ld_termdef.proofs.Chain.{first, second, other}
use Rattle.ld_termdef.proofs.laws.worked_chain.Goals as goal

pub returns-clause-first : goal.returns-clause-first
returns-clause-first c = first

pub returns-clause-second : goal.returns-clause-second
returns-clause-second c = second

pub returns-clause-other : goal.returns-clause-other
returns-clause-other c = other
