use Rattle.std.proofs.Common.{inl, inr}
use Rattle.vc_cli.specs.Commands.{IsIssueCommand, IsVerifyCommand}
use Rattle.vc_cli.proofs.CommandWords.{answers_issue, answers_verify, is_told, issue_not_verify, not_told, verify_signs}
use Rattle.vc_cli.proofs.run.reply_to.Goals as goal
use Rattle.vc_session.proofs.IssuedProofs.{keeps_self, keeps_same}

-- ---- the word `issue`

pub returns-then-is_word-clause-answer : goal.returns-then-is_word-clause-answer
returns-then-is_word-clause-answer g c = answers_issue
    c.args.words.now (g.S.Source.means c.args.source.now) (g.S.Source.means c.issue.new.source)
    (g.D.KeyDevice.means c.args.device.now) (g.D.KeyDevice.means c.issue.new.device)
    _ (is_told (IsIssueCommand c.args.words.now) _ c.if-is_word.true c.is_word.ensures) c.issue.ensures.answer

pub returns-then-is_word-clause-unread : goal.returns-then-is_word-clause-unread
returns-then-is_word-clause-unread g c = λ no. absurd (no (inr (inl (is_told (IsIssueCommand c.args.words.now) _ c.if-is_word.true c.is_word.ensures))))

pub returns-then-is_word-clause-unused : goal.returns-then-is_word-clause-unused
returns-then-is_word-clause-unused g c = λ no other. absurd (no (is_told (IsIssueCommand c.args.words.now) _ c.if-is_word.true c.is_word.ensures))

pub returns-then-is_word-clause-only_checks : goal.returns-then-is_word-clause-only_checks
returns-then-is_word-clause-only_checks g c = λ v. absurd (issue_not_verify c.args.words.now (is_told (IsIssueCommand c.args.words.now) _ c.if-is_word.true c.is_word.ensures) v)

pub returns-then-is_word-clause-sound : goal.returns-then-is_word-clause-sound
returns-then-is_word-clause-sound g c = λ v. absurd (issue_not_verify c.args.words.now (is_told (IsIssueCommand c.args.words.now) _ c.if-is_word.true c.is_word.ensures) v)

-- ---- the word `verify`

pub returns-then-is_word-2-clause-answer : goal.returns-then-is_word-2-clause-answer
returns-then-is_word-2-clause-answer g c = answers_verify
    c.args.words.now (g.S.Source.means c.args.source.now) (g.S.Source.means c.verify.new.source)
    (g.D.KeyDevice.means c.args.device.now) (g.D.KeyDevice.means c.verify.new.device)
    _ (is_told (IsVerifyCommand c.args.words.now) _ c.if-is_word-2.true c.is_word-2.ensures) c.verify.ensures.answer

pub returns-then-is_word-2-clause-signs : goal.returns-then-is_word-2-clause-signs
returns-then-is_word-2-clause-signs g c = verify_signs
    (g.S.Source.means c.args.source.now) (g.S.Source.means c.verify.new.source)
    (g.D.KeyDevice.means c.args.device.now) (g.D.KeyDevice.means c.verify.new.device)
    _ c.verify.ensures.answer c.verify.ensures.stays.log

pub returns-then-is_word-2-clause-unread : goal.returns-then-is_word-2-clause-unread
returns-then-is_word-2-clause-unread g c = λ no. absurd (no (inr (inr (is_told (IsVerifyCommand c.args.words.now) _ c.if-is_word-2.true c.is_word-2.ensures))))

pub returns-then-is_word-2-clause-unused : goal.returns-then-is_word-2-clause-unused
returns-then-is_word-2-clause-unused g c = λ other no. absurd (no (is_told (IsVerifyCommand c.args.words.now) _ c.if-is_word-2.true c.is_word-2.ensures))

pub returns-then-is_word-2-clause-only_checks : goal.returns-then-is_word-2-clause-only_checks
returns-then-is_word-2-clause-only_checks g c = λ v. c.verify.ensures.stays

pub returns-then-is_word-2-clause-keeps : goal.returns-then-is_word-2-clause-keeps
returns-then-is_word-2-clause-keeps g c = keeps_same
    (g.D.KeyDevice.means c.args.device.now) (g.D.KeyDevice.means c.verify.new.device)
    c.verify.ensures.stays c.verify.ensures.count

pub returns-then-is_word-2-clause-sound : goal.returns-then-is_word-2-clause-sound
returns-then-is_word-2-clause-sound g c = λ v. c.verify.ensures.sound

-- ---- other words

pub returns-clause-answer : goal.returns-clause-answer
returns-clause-answer g c = c.reply_alone.ensures.answer (g.D.KeyDevice.means c.args.device.now)
    (not_told (IsIssueCommand c.args.words.now) _ c.if-is_word.false c.is_word.ensures)
    (not_told (IsVerifyCommand c.args.words.now) _ c.if-is_word-2.false c.is_word-2.ensures)

pub returns-clause-signs : goal.returns-clause-signs
returns-clause-signs g c = c.reply_alone.ensures.signs (g.D.KeyDevice.means c.args.device.now)

pub returns-clause-keeps : goal.returns-clause-keeps
returns-clause-keeps g c = keeps_self (g.D.KeyDevice.means c.args.device.now)

pub returns-clause-only_checks : goal.returns-clause-only_checks
returns-clause-only_checks g c = λ v. absurd ((not_told (IsVerifyCommand c.args.words.now) _ c.if-is_word-2.false c.is_word-2.ensures) v)

pub returns-clause-sound : goal.returns-clause-sound
returns-clause-sound g c = λ v. absurd ((not_told (IsVerifyCommand c.args.words.now) _ c.if-is_word-2.false c.is_word-2.ensures) v)
