use Rattle.std.proofs.Common.{rules}
use Rattle.vc_session.proofs.Printing.{items_done, items_grow, list_printable}
use Rattle.vc_session.proofs.reply_lines.whole_items.Goals as goal

pub loop-at-preserved : goal.loop-at-preserved
loop-at-preserved c = items_grow c.loop-at.items _ _ c.args.numbers.now c.loop-at.at _ c.in_ok-push.ensures.ok c.whole_item.ensures.item c.whole_item.ensures.printable (search rules) (search rules) c.loop-at.invariant.0 c.loop-at.invariant.1

pub returns-clause-printable : goal.returns-clause-printable
returns-clause-printable c = list_printable c.loop-at.items c.args.numbers.now (items_done c.loop-at.items c.args.numbers.now c.loop-at.at c.loop-at.invariant.0 (search rules)) c.loop-at.invariant.1
