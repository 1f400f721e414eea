use Rattle.std.proofs.Common.{nat_lt, ap, ◌∙◌}
use Rattle.json_tree.specs.Trees.{each_next, is_before}
use Rattle.json_tree.proofs.TreeLemmas.{members_rise, items_rise}
use Rattle.pointer_select.proofs.parting.index_of_child.Goals as goal

pub index_of_member-requires : goal.index_of_member-requires
index_of_member-requires c = ap (each_next (λ m n. is_before m.key n.key)) c.as_slice.ensures ∙ members_rise _ _ c.requires c.in-Object.is

pub index_of_element-requires : goal.index_of_element-requires
index_of_element-requires c = ap (each_next (λ i j. nat_lt i.at j.at)) c.as_slice-in-At-step.ensures ∙ items_rise _ _ c.requires c.in-List.is
