use Rattle.json_tree.proofs.MemberLooks.{put_stands, put_leaves_others}
use Rattle.json_tree.proofs.laws.a_member_put_in.Goals as goal

pub returns-clause-stands : goal.returns-clause-stands
returns-clause-stands c = put_stands

pub returns-clause-others : goal.returns-clause-others
returns-clause-others c = put_leaves_others
