use Rattle.vc_cli.proofs.CommandWords.{sound_yes}
use Rattle.vc_cli.proofs.run.run.Goals as goal

pub returns-clause-answer : goal.returns-clause-answer
returns-clause-answer g c = (c.reply_to-reply.result, c.reply_to-reply.ensures.answer, c.deliver.ensures, c.reply_to-reply.ensures.signs)

pub returns-clause-sound : goal.returns-clause-sound
returns-clause-sound g c = λ v done. sound_yes
    (g.S.Source.means c.args.source.now) (g.S.Source.means c.reply_to-reply.new.source)
    _ (g.D.KeyDevice.means c.args.device.now) (g.D.KeyDevice.means c.reply_to-reply.new.device)
    c.args.words.now v _ _ c.reply_to-reply.result c.deliver.result
    c.reply_to-reply.ensures.answer c.deliver.ensures (c.reply_to-reply.ensures.sound v) done
