use Rattle.std.proofs.Common.{◌∙◌}
use Rattle.vc_session.specs.ReplyTrees.{verified_tree}
use Rattle.vc_session.proofs.Printing.{line_as, verified_is}
use Rattle.vc_session.proofs.reply_lines.verified_line.Goals as goal

pub returns : goal.returns
returns c = line_as c.line.result _ (verified_tree c.args.issuer.now c.args.indexes.now c.args.key.now c.args.statements) c.line.ensures
    (verified_is _ _ _ _ _ _ _ _ c.args.issuer.now c.args.key.now _ _ _ c.args.indexes.now c.args.statements
    (c.from_vec.ensures ∙ c.in_ok-members.ensures.items) c.in_ok-key_field.ensures c.new.ensures c.in_ok-field.ensures
    c.as_slice.ensures c.in_ok-mandatory.ensures.items c.in_ok-field-2.ensures
    c.in_ok-key_field-2.ensures c.in_ok-number_field.ensures.is c.in_ok-field-3.ensures c.in_ok-field-4.ensures)
