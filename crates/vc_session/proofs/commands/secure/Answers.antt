use Rattle.vc_session.proofs.OutcomeReplies.{issued_answers, issued_signs, unissued_answers, unissued_signs}
use Rattle.vc_session.proofs.commands.secure.Goals as goal

pub returns-in-Ok-clause-answer : goal.returns-in-Ok-clause-answer
returns-in-Ok-clause-answer g c = λ r w. issued_answers _ _ r c.in-Ok.made _ (c.in-Ok.ensures.outcome r w) c.issued_reply.ensures

pub returns-in-Err-clause-answer : goal.returns-in-Err-clause-answer
returns-in-Err-clause-answer g c = λ r w. unissued_answers _ _ r c.in-Err.fault _ (c.in-Err.ensures.outcome r w) c.unissued_reply.ensures

pub returns-in-Ok-clause-signs : goal.returns-in-Ok-clause-signs
returns-in-Ok-clause-signs g c = λ r w. issued_signs _ _ r c.in-Ok.made _ (c.in-Ok.ensures.outcome r w) c.issued_reply.ensures

pub returns-in-Err-clause-signs : goal.returns-in-Err-clause-signs
returns-in-Err-clause-signs g c = λ r w. unissued_signs
    (g.D.KeyDevice.means c.args.device.now) (g.D.KeyDevice.means c.issue.new.device)
    r c.in-Err.fault _ c.in-Err.ensures.unsigned c.unissued_reply.ensures
