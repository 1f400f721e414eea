use Rattle.vc_session.specs.Answers.{VerifyAnswers}
use Rattle.vc_session.proofs.OutcomeReplies.{read_answers, read_sound, unread_answers, unread_sound}
use Rattle.vc_session.proofs.commands.verify.Goals as goal

pub returns-in-Ok-clause-answer : goal.returns-in-Ok-clause-answer
returns-in-Ok-clause-answer g c = let h = c.in-Ok.ensures in read_answers
    (VerifyAnswers (g.D.KeyDevice.means c.args.device.now) (g.D.KeyDevice.means c.verify_request.new.device))
    (g.S.Source.means c.args.source.now) (g.S.Source.means c.request.new.source)
    h.0 c.in-Ok.request _ h.1 h.2.0 c.verify_request.ensures.answer

pub returns-in-Err-clause-answer : goal.returns-in-Err-clause-answer
returns-in-Err-clause-answer g c = unread_answers
    (VerifyAnswers (g.D.KeyDevice.means c.args.device.now) (g.D.KeyDevice.means c.args.device.now))
    (g.S.Source.means c.args.source.now) (g.S.Source.means c.request.new.source)
    _ c.in-Err.ensures

pub returns-in-Ok-clause-sound : goal.returns-in-Ok-clause-sound
returns-in-Ok-clause-sound g c = let h = c.in-Ok.ensures in read_sound
    (g.S.Source.means c.args.source.now) _ h.0 c.in-Ok.request _ h.1 h.2.0 c.verify_request.ensures.sound

pub returns-in-Err-clause-sound : goal.returns-in-Err-clause-sound
returns-in-Err-clause-sound g c = unread_sound
    (g.S.Source.means c.args.source.now) (g.S.Source.means c.request.new.source) _ _ c.in-Err.ensures
