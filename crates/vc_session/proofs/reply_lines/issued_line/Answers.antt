use Rattle.std.proofs.Common.{◌∙◌}
use Rattle.vc_session.specs.ReplyTrees.{issued_tree}
use Rattle.vc_session.proofs.Printing.{issued_is, line_as}
use Rattle.vc_session.proofs.reply_lines.issued_line.Goals as goal

pub returns : goal.returns
returns c = line_as c.line.result _ (issued_tree c.args.document c.args.mandatory c.args.statements) c.line.ensures
    (issued_is _ _ _ _ _ c.args.document c.args.mandatory c.args.statements (c.from_vec.ensures ∙ c.in_ok-members.ensures.items)
    c.in_ok-field.ensures c.in_ok-number_field.ensures.is c.in_ok-number_field-2.ensures.is c.in_ok-field-2.ensures)
