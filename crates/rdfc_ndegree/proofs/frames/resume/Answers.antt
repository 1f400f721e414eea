use Rattle.std.proofs.Common.{refl}
use Rattle.rdfc_ndegree.proofs.Weighing.{less-still}
use Rattle.rdfc_ndegree.proofs.frames.resume.Goals as goal

pub returns-in_ok-resume_call-in-Call-Choice-clause-ok : goal.returns-in_ok-resume_call-in-Call-Choice-clause-ok
returns-in_ok-resume_call-in-Call-Choice-clause-ok c = λ rows k whole part h a.
    c.in_ok-resume_call-in-Call-Choice.ensures.ok rows k c.args.meter.now.limits c.args.issuer.now c.args.meter.now.spent whole part (rw c.in-Call-Choice.is-0 at h) (rw c.in-Call-Choice.is-1 at a)

pub returns-in_ok-resume_call-in-Call-Choice-clause-lessens : goal.returns-in_ok-resume_call-in-Call-Choice-clause-lessens
returns-in_ok-resume_call-in-Call-Choice-clause-lessens c = λ most.
    rw (c.in-Call-Choice.is-0, c.in-Call-Choice.is-1) (less-still most 2 _ c.args.meter.now c.args.meter.now refl (c.in_ok-resume_call-in-Call-Choice.ensures.lessens most))

pub returns-in-Choice-Trail-clause-ok : goal.returns-in-Choice-Trail-clause-ok
returns-in-Choice-Trail-clause-ok c = λ rows k whole part h a.
    c.resume_choice.ensures.ok c.args.hash rows k whole part (rw c.in-Choice-Trail.is-0 at h) (rw c.in-Choice-Trail.is-1 at a)

pub returns-in-Choice-Trail-clause-fault : goal.returns-in-Choice-Trail-clause-fault
returns-in-Choice-Trail-clause-fault c = λ rows k whole part laws h a.
    c.resume_choice.ensures.fault c.args.hash rows k whole part laws (rw c.in-Choice-Trail.is-0 at h) (rw c.in-Choice-Trail.is-1 at a)

pub returns-in-Choice-Trail-clause-lessens : goal.returns-in-Choice-Trail-clause-lessens
returns-in-Choice-Trail-clause-lessens c = λ most. rw (c.in-Choice-Trail.is-0, c.in-Choice-Trail.is-1) (c.resume_choice.ensures.lessens most)

pub returns-in_ok-resume_trail-in-Trail-Call-clause-ok : goal.returns-in_ok-resume_trail-in-Trail-Call-clause-ok
returns-in_ok-resume_trail-in-Trail-Call-clause-ok c = λ rows k whole part h a.
    c.in_ok-resume_trail-in-Trail-Call.ensures.ok c.args.hash rows k c.args.meter.now.limits c.args.meter.now.spent whole part (rw c.in-Trail-Call.is-0 at h) (rw c.in-Trail-Call.is-1 at a)

pub returns-in_ok-resume_trail-in-Trail-Call-clause-lessens : goal.returns-in_ok-resume_trail-in-Trail-Call-clause-lessens
returns-in_ok-resume_trail-in-Trail-Call-clause-lessens c = λ most.
    rw (c.in-Trail-Call.is-0, c.in-Trail-Call.is-1) (less-still most _ _ c.args.meter.now c.args.meter.now refl (c.in_ok-resume_trail-in-Trail-Call.ensures.lessens most))
