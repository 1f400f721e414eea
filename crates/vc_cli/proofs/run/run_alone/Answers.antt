use Rattle.vc_cli.proofs.run.run_alone.Goals as goal

pub returns-clause-answer : goal.returns-clause-answer
returns-clause-answer g c = λ device a b. (c.reply_alone-reply.result, c.reply_alone-reply.ensures.answer device a b, c.deliver.ensures)
