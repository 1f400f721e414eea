use Rattle.std.proofs.Common.{inl}
use Rattle.vc_cli.specs.Commands.{IsStatements}
use Rattle.vc_cli.proofs.CommandWords.{answers_statements, answers_usage, is_told, not_told, statements_sign}
use Rattle.vc_cli.proofs.run.reply_alone.Goals as goal

pub returns-then-is_word-clause-answer : goal.returns-then-is_word-clause-answer
returns-then-is_word-clause-answer g c = λ device a b. answers_statements
    c.args.words.now (g.S.Source.means c.args.source.now) (g.S.Source.means c.statements.new.source)
    device device _ (is_told (IsStatements c.args.words.now) _ c.if-is_word.true c.is_word.ensures) c.statements.ensures

pub returns-then-is_word-clause-signs : goal.returns-then-is_word-clause-signs
returns-then-is_word-clause-signs g c = λ device. statements_sign
    (g.S.Source.means c.args.source.now) (g.S.Source.means c.statements.new.source) device _ c.statements.ensures

pub returns-then-is_word-clause-unread : goal.returns-then-is_word-clause-unread
returns-then-is_word-clause-unread g c = λ no. absurd (no (inl (is_told (IsStatements c.args.words.now) _ c.if-is_word.true c.is_word.ensures)))

pub returns-clause-answer : goal.returns-clause-answer
returns-clause-answer g c = λ device a b. answers_usage
    c.args.words.now (g.S.Source.means c.args.source.now) (g.S.Source.means c.args.source.now)
    device device (not_told (IsStatements c.args.words.now) _ c.if-is_word.false c.is_word.ensures) a b
