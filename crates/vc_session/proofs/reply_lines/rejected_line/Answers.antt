use Rattle.std.proofs.Common.{◌∙◌}
use Rattle.vc_session.specs.ReplyTrees.{rejected_tree}
use Rattle.vc_session.proofs.Printing.{line_as, rejected_is}
use Rattle.vc_session.proofs.reply_lines.rejected_line.Goals as goal

pub returns : goal.returns
returns c = line_as c.line.result _ (rejected_tree c.args.cause.now) c.line.ensures
    (rejected_is _ _ _ _ c.args.cause.now (c.from_vec.ensures ∙ c.in_ok-members.ensures.items) c.in_ok-field.ensures c.in_ok-field-2.ensures c.in_ok-cause.ensures.fields)
