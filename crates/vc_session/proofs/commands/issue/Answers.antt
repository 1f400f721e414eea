use Rattle.vc_session.specs.Answers.{IssueAnswers}
use Rattle.vc_session.proofs.OutcomeReplies.{read_answers, read_signs, unread_answers, unread_signs}
use Rattle.vc_session.proofs.commands.issue.Goals as goal

pub returns-in-Ok-clause-answer : goal.returns-in-Ok-clause-answer
returns-in-Ok-clause-answer g c = let h = c.in-Ok.ensures in read_answers
    (IssueAnswers (g.D.KeyDevice.means c.args.device.now) (g.D.KeyDevice.means c.issue_request.new.device))
    (g.S.Source.means c.args.source.now) (g.S.Source.means c.request.new.source)
    h.0 c.in-Ok.request _ h.1 h.2.0 c.issue_request.ensures.answer

pub returns-in-Err-clause-answer : goal.returns-in-Err-clause-answer
returns-in-Err-clause-answer g c = unread_answers
    (IssueAnswers (g.D.KeyDevice.means c.args.device.now) (g.D.KeyDevice.means c.args.device.now))
    (g.S.Source.means c.args.source.now) (g.S.Source.means c.request.new.source)
    _ c.in-Err.ensures

pub returns-in-Ok-clause-signs : goal.returns-in-Ok-clause-signs
returns-in-Ok-clause-signs g c = let h = c.in-Ok.ensures in read_signs
    (g.S.Source.means c.args.source.now)
    (g.D.KeyDevice.means c.args.device.now) (g.D.KeyDevice.means c.issue_request.new.device)
    h.0 c.in-Ok.request _ h.1 h.2.0 c.issue_request.ensures.signs

pub returns-in-Err-clause-signs : goal.returns-in-Err-clause-signs
returns-in-Err-clause-signs g c = unread_signs
    (g.S.Source.means c.args.source.now) (g.S.Source.means c.request.new.source)
    (g.D.KeyDevice.means c.args.device.now)
    _ c.in-Err.ensures
