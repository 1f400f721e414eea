use Rattle.std.proofs.Common.{Err, subst}
use Rattle.json_tree.specs.declared.tree.TreeFault.{TreeFault}
use Rattle.json_tree.specs.Reads.{Reads}
use Rattle.vc_session.proofs.input.tree_of.Goals as goal

pub returns-in-Err-NotWhole : goal.returns-in-Err-NotWhole
returns-in-Err-NotWhole c = c.not_whole.ensures c.args.bytes.now (subst (λ (f : TreeFault). Reads c.args.bytes.now (Err f)) c.in-Err-NotWhole.field-0-is c.in-Err-NotWhole.ensures.outcome)
