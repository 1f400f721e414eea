use Rattle.std.proofs.Common.{ap, ◌∙◌}
use Rattle.json_tree.specs.Trees.{each_next, is_before}
use Rattle.json_tree.proofs.TreeLemmas.{members_rise}
use Rattle.pointer_select.proofs.naming.child_named.Goals as goal

pub member-requires : goal.member-requires
member-requires c = ap (each_next (λ m n. is_before m.key n.key)) c.as_slice.ensures ∙ members_rise _ _ c.requires c.in-Object.is
