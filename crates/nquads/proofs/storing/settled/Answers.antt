use Rattle.std.proofs.Common.{refl}
use Rattle.nquads.proofs.StoringLemmas.{settled_same, more_quads}
use Rattle.nquads.proofs.storing.settled.Goals as goal

pub returns-then-len-gt-MOST_STATEMENTS-clause-fault : goal.returns-then-len-gt-MOST_STATEMENTS-clause-fault
returns-then-len-gt-MOST_STATEMENTS-clause-fault c =
    (refl, more_quads c.from_vec-set.result c.args.quads.items c.len.result c.from_vec-set.ensures.same c.from_vec-set.ensures.differ c.len.ensures c.if-len-gt-MOST_STATEMENTS.true)

pub returns-clause-same : goal.returns-clause-same
returns-clause-same c =
    settled_same c.in_ok-kept.kept.items c.as_slice.result.now c.from_vec-set.result c.args.quads.items c.in_ok-kept.ensures c.as_slice.ensures.same c.from_vec-set.ensures.same
