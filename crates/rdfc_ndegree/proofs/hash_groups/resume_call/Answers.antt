use Rattle.std.proofs.Common.{◌≡◌, ◌++◌, ◌||◌, IfOk, sym, subst}
use Rattle.rdfc_ndegree.specs.Internal.Progress.{spending_of, data_to_hash}
use Rattle.rdfc_ndegree.specs.Internal.Frames.{Setting, setting, CallStands, groups_left, Moves}
use Rattle.rdfc_ndegree.proofs.Replies.{call-replied}
use Rattle.rdfc_ndegree.proofs.hash_groups.resume_call.Goals as goal

pub returns-clause-ok : goal.returns-clause-ok
returns-clause-ok c = λ rows k limits now spent whole part h a.
    let s : Setting = setting c.args.hash rows k limits in
    let g = call-replied s whole part now spent c.args.state c.args.group_hash c.args.given h a in
    let text : c.push_choice.new.text.items ≡ c.args.state.text.items ++ (c.args.group_hash ++ c.args.given.path) = rw c.as_slice.ensures at c.in_ok-push_choice.ensures in
    let stands : CallStands s g.node g.issuer (data_to_hash c.push_choice.new.text.items now (c.args.state.tie || c.args.given.tie)) (groups_left c.args.state) (spending_of g.before spent) = rw text g.stands in
    subst (λ z. IfOk c.next_group.result (Moves s z now spent)) (sym g.whole_is) (c.next_group.ensures.ok rows k limits g.node g.issuer now g.before spent stands)
