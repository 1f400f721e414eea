use Rattle.std.proofs.Common.{◌≡◌, sym, subst, arith, length, rules}
use Rattle.rdfc_ndegree.specs.Internal.Evaluations.{first_tie, trail_answer}
use Rattle.rdfc_ndegree.specs.Internal.Progress.{spending_of}
use Rattle.rdfc_ndegree.specs.Internal.Frames.{Setting, setting, Moves, TrailStands, members_left}
use Rattle.rdfc_ndegree.proofs.Replies.{trail-replied}
use Rattle.rdfc_ndegree.proofs.nested_calls.resume_trail.Goals as goal

pub returns-clause-ok : goal.returns-clause-ok
returns-clause-ok c = λ algorithm rows k limits spent whole part h a.
    let s : Setting = setting algorithm rows k limits in
    let now = c.args.issuer.now in
    let g = trail-replied s whole part now spent c.args.state c.args.number c.args.given c.push_path_part.new.path.items h a (λ i m same. c.in_ok-push_path_part.ensures algorithm rows i m same) in
    let tie : c.first_tie-tie.result ≡ first_tie c.args.state.tie c.args.given.tie (length c.args.state.path.items) = search rules in
    let stands : TrailStands s g.issuer g.arrangement (trail_answer c.push_path_part.new.path.items now c.first_tie-tie.result) (members_left c.args.state) (spending_of g.before spent) = rw tie g.stands in
    subst (λ z. Moves s z now spent c.next_member.result) (sym g.whole_is) (c.next_member.ensures.ok algorithm rows k limits g.issuer g.arrangement g.before spent stands)

pub returns-clause-lessens : goal.returns-clause-lessens
returns-clause-lessens c = λ most. let less = c.next_member.ensures.lessens most in omega arith
