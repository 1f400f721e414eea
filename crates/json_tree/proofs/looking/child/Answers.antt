use Rattle.std.proofs.Common.{nat_lt, ap, ◌∙◌}
use Rattle.json_tree.specs.Trees.{each_next, is_before}
use Rattle.json_tree.specs.Places.{child_of}
use Rattle.json_tree.proofs.TreeLemmas.{members_rise, items_rise}
use Rattle.json_tree.proofs.Kept.{answer_has, child_lawful, key_child, at_child}
use Rattle.json_tree.proofs.looking.child.Goals as goal

pub member-requires : goal.member-requires
member-requires c = ap (each_next (λ m n. is_before m.key n.key)) c.as_slice.ensures ∙ members_rise _ _ c.requires c.in-Object-Key.is-0

pub element-requires : goal.element-requires
element-requires c = ap (each_next (λ i j. nat_lt i.at j.at)) c.as_slice-in-List-At.ensures ∙ items_rise _ _ c.requires c.in-List-At.is-0

pub returns-in-Object-Key-clause-lawful : goal.returns-in-Object-Key-clause-lawful
returns-in-Object-Key-clause-lawful c =
    answer_has c.member.result (child_of c.args.tree.now c.args.step.now) _ (key_child _ _ _ _ _ _ _ c.member.ensures c.as_slice.ensures c.as_str.ensures c.in-Object-Key.is-0 c.in-Object-Key.is-1) (λ u h. child_lawful c.args.tree.now u c.args.step.now c.requires h)

pub returns-in-List-At-clause-value : goal.returns-in-List-At-clause-value
returns-in-List-At-clause-value c = at_child _ _ _ _ _ _ c.element.ensures c.as_slice-in-List-At.ensures c.in-List-At.is-0 c.in-List-At.is-1

pub returns-in-List-At-clause-lawful : goal.returns-in-List-At-clause-lawful
returns-in-List-At-clause-lawful c =
    answer_has c.element.result (child_of c.args.tree.now c.args.step.now) _ (at_child _ _ _ _ _ _ c.element.ensures c.as_slice-in-List-At.ensures c.in-List-At.is-0 c.in-List-At.is-1) (λ u h. child_lawful c.args.tree.now u c.args.step.now c.requires h)
