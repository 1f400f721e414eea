use Rattle.vc_session.specs.Answers.{StatementsAnswers}
use Rattle.vc_session.proofs.OutcomeReplies.{read_answers, unread_answers}
use Rattle.vc_session.proofs.commands.statements.Goals as goal

pub returns-in-Ok : goal.returns-in-Ok
returns-in-Ok g c = let h = c.in-Ok.ensures in read_answers StatementsAnswers
    (g.S.Source.means c.args.source.now) (g.S.Source.means c.request.new.source)
    h.0 c.in-Ok.request _ h.1 h.2.0 c.statements_of.ensures

pub returns-in-Err : goal.returns-in-Err
returns-in-Err g c = unread_answers StatementsAnswers
    (g.S.Source.means c.args.source.now) (g.S.Source.means c.request.new.source) _ c.in-Err.ensures
