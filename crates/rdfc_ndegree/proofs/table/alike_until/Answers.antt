use Rattle.rdfc_ndegree.proofs.Alikes.{alike-next, alike-there}
use Rattle.rdfc_ndegree.proofs.table.alike_until.Goals as goal

pub loop-end-preserved : goal.loop-end-preserved
loop-end-preserved c = alike-next c.args.related.now c.args.place c.loop-end.end c.in-Some.first.now _ c.loop-end-test.true (c.is_alike.ensures c.if-is_alike.true) c.loop-end.invariant

pub returns-else-is_alike-clause-alike : goal.returns-else-is_alike-clause-alike
returns-else-is_alike-clause-alike c = λ r at.
    let found = c.in-Some.ensures.lookup in
    alike-there c.args.related.now c.args.place c.loop-end.end c.in-Some.first.now r found.3.0 found.1 at c.loop-end.invariant

pub returns-after-loop-end-clause-alike : goal.returns-after-loop-end-clause-alike
returns-after-loop-end-clause-alike c = λ r at.
    let found = c.in-Some.ensures.lookup in
    alike-there c.args.related.now c.args.place c.loop-end.end c.in-Some.first.now r found.3.0 found.1 at c.loop-end.invariant
