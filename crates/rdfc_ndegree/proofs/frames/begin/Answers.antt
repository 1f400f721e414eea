use Rattle.std.proofs.Common.{refl}
use Rattle.rdfc_ndegree.proofs.Weighing.{less-still}
use Rattle.rdfc_ndegree.proofs.frames.begin.Goals as goal

pub returns-in_ok-begin_call-in-Call-clause-ok : goal.returns-in_ok-begin_call-in-Call-clause-ok
returns-in_ok-begin_call-in-Call-clause-ok c =
    let fit = rw c.in-Call.is at c.requires.fit in
    rw c.in-Call.is (c.in_ok-begin_call-in-Call.ensures.ok c.args.meter.now.limits c.args.meter.now.spent fit)

pub returns-in_ok-begin_call-in-Call-clause-lessens : goal.returns-in_ok-begin_call-in-Call-clause-lessens
returns-in_ok-begin_call-in-Call-clause-lessens c = λ most enough.
    rw c.in-Call.is (less-still most 2 _ c.args.meter.now c.args.meter.now refl (c.in_ok-begin_call-in-Call.ensures.lessens most))

pub returns-in-Choice-clause-ok : goal.returns-in-Choice-clause-ok
returns-in-Choice-clause-ok c =
    let fit = rw c.in-Choice.is at c.requires.fit in
    rw c.in-Choice.is (rw c.as_slice.ensures at (c.begin_choice.ensures.ok c.args.hash c.args.table.now c.args.canonical.now (rw c.as_slice.ensures fit)))

pub returns-in-Choice-clause-fault : goal.returns-in-Choice-clause-fault
returns-in-Choice-clause-fault c =
    let fit = rw c.in-Choice.is at c.requires.fit in
    rw c.in-Choice.is (rw c.as_slice.ensures at (c.begin_choice.ensures.fault c.args.hash c.args.table.now c.args.canonical.now c.requires.nodes (rw c.as_slice.ensures fit)))

pub returns-in-Choice-clause-lessens : goal.returns-in-Choice-clause-lessens
returns-in-Choice-clause-lessens c = λ most enough. rw c.in-Choice.is (c.begin_choice.ensures.lessens most)

pub returns-in_ok-begin_trail-in-Trail-clause-ok : goal.returns-in_ok-begin_trail-in-Trail-clause-ok
returns-in_ok-begin_trail-in-Trail-clause-ok c =
    let fit = rw c.in-Trail.is at c.requires.fit in
    rw c.in-Trail.is (rw c.as_slice-in-Trail.ensures at (c.in_ok-begin_trail-in-Trail.ensures.ok c.args.hash c.args.table.now c.args.meter.now.limits c.args.meter.now.spent (rw c.as_slice-in-Trail.ensures fit)))

pub returns-in_ok-begin_trail-in-Trail-clause-lessens : goal.returns-in_ok-begin_trail-in-Trail-clause-lessens
returns-in_ok-begin_trail-in-Trail-clause-lessens c = λ most enough.
    let fit = rw c.in-Trail.is at c.requires.fit in
    rw c.in-Trail.is (less-still most most _ c.args.meter.now c.args.meter.now refl (c.in_ok-begin_trail-in-Trail.ensures.lessens c.args.hash c.args.table.now most c.requires.nodes (rw c.as_slice-in-Trail.ensures fit) enough))
