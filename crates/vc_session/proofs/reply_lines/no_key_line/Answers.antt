use Rattle.std.proofs.Common.{◌∙◌}
use Rattle.vc_session.specs.ReplyTrees.{no_key_tree}
use Rattle.vc_session.proofs.Printing.{line_as, no_key_is}
use Rattle.vc_session.proofs.reply_lines.no_key_line.Goals as goal

pub returns : goal.returns
returns c = line_as c.line.result c.in_ok-tree.tree (no_key_tree c.args.key.now) c.line.ensures
    (no_key_is c.in_ok-tree.tree _ _ _ c.args.key.now c.in_ok-tree.ensures.tree (c.from_vec.ensures ∙ c.in_ok-vec.ensures.items) c.in_ok-key.ensures c.in_ok-name.ensures)
