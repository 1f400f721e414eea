use Rattle.vc_session.proofs.OutcomeReplies.{input_read}
use Rattle.vc_session.proofs.input.request.Goals as goal

pub returns-in-Ok : goal.returns-in-Ok
returns-in-Ok g c = input_read
    (g.S.Source.means c.args.source.now) (g.S.Source.means c.read_all.new.source) c.in-Ok.bytes.items c.as_slice.result.now _
    c.as_slice.ensures.value c.in-Ok.ensures.all c.in-Ok.ensures.at_most c.tree_of.ensures
