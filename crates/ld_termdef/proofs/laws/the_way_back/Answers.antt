use Rattle.std.proofs.Common.{refl}
use Rattle.ld_termdef.proofs.Returning.{returns_to_before, remember-once, remember-kept, remember-current}
use Rattle.ld_termdef.proofs.laws.the_way_back.Goals as goal

pub returns-clause-back : goal.returns-clause-back
returns-clause-back c = returns_to_before

pub returns-clause-once : goal.returns-clause-once
returns-clause-once c = remember-once

pub returns-clause-kept : goal.returns-clause-kept
returns-clause-kept c = remember-kept

pub returns-clause-holds : goal.returns-clause-holds
returns-clause-holds c = remember-current

pub returns-clause-initial : goal.returns-clause-initial
returns-clause-initial c = refl
