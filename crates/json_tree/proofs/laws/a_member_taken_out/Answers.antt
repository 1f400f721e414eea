use Rattle.json_tree.proofs.MemberLooks.{taken_gone, taken_leaves_others, put_undone}
use Rattle.json_tree.proofs.laws.a_member_taken_out.Goals as goal

pub returns-clause-gone : goal.returns-clause-gone
returns-clause-gone c = taken_gone

pub returns-clause-others : goal.returns-clause-others
returns-clause-others c = taken_leaves_others

pub returns-clause-undone : goal.returns-clause-undone
returns-clause-undone c key value t ms of = put_undone key value t ms of
