use Rattle.vc_session.proofs.FlatTexts.{lines_without, same_from}
use Rattle.vc_session.proofs.lines.lines_of.Goals as goal

pub returns : goal.returns
returns c = λ q are. lines_without _ q _ c.new-labels.ensures (c.in_ok-lines.ensures q (same_from _ _ are))
