use Rattle.vc_session.proofs.input.not_whole.Goals as goal

pub returns-in-Ok : goal.returns-in-Ok
returns-in-Ok c bytes read = (c.args.place.now, read, c.in-Ok.ensures)
