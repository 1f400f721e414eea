use Rattle.vc_session.proofs.OutcomeReplies.{rejected_answers, unverified_answers, verified_answers, verified_sound}
use Rattle.vc_session.proofs.commands.check.Goals as goal

pub returns-in-Ok-Yes-clause-answer : goal.returns-in-Ok-Yes-clause-answer
returns-in-Ok-Yes-clause-answer g c = λ r w. verified_answers
    (g.D.KeyDevice.means c.args.device.now) (g.D.KeyDevice.means c.verify.new.device)
    r c.in-Ok-Yes.accepted _ _ c.in-Ok-Yes.field-0-is (c.in-Ok-Yes.ensures.outcome r w) c.verified_reply.ensures

pub returns-in-Ok-Yes-clause-sound : goal.returns-in-Ok-Yes-clause-sound
returns-in-Ok-Yes-clause-sound g c = λ r w. verified_sound
    (g.D.KeyDevice.means c.args.device.now) (g.D.KeyDevice.means c.verify.new.device)
    r c.in-Ok-Yes.accepted _ _ c.in-Ok-Yes.field-0-is (c.in-Ok-Yes.ensures.outcome r w) c.verified_reply.ensures

pub returns-in-Ok-No-clause-answer : goal.returns-in-Ok-No-clause-answer
returns-in-Ok-No-clause-answer g c = λ r w. rejected_answers
    (g.D.KeyDevice.means c.args.device.now) (g.D.KeyDevice.means c.verify.new.device)
    r c.in-Ok-No.cause _ _ c.in-Ok-No.field-0-is (c.in-Ok-No.ensures.outcome r w) c.rejected_reply.ensures

pub returns-in-Err-clause-answer : goal.returns-in-Err-clause-answer
returns-in-Err-clause-answer g c = λ r w. unverified_answers
    (g.D.KeyDevice.means c.args.device.now) (g.D.KeyDevice.means c.verify.new.device)
    r c.in-Err.fault _ (c.in-Err.ensures.outcome r w) c.unverified_reply.ensures
