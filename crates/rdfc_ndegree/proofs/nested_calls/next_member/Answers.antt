use Rattle.std.proofs.Common.{◌≡◌, ◌≤◌, ℕ, length, get_or, subst, arith, drop_of_length-le, rules}
use Rattle.std.specs.Prelude.{unwrap_or}
use Rattle.rdfc_ndegree.specs.NumberIssuers.{place_in}
use Rattle.rdfc_ndegree.specs.Internal.Progress.{spending_of}
use Rattle.rdfc_ndegree.specs.Internal.Frames.{Setting, setting, TrailStands, trail_so_far, members_left}
use Rattle.rdfc_ndegree.proofs.Walks.{number-or_length}
use Rattle.rdfc_ndegree.proofs.Weighing.{left-next, member-weight}
use Rattle.rdfc_ndegree.proofs.Replies.{trail-ends, trail-asks}
use Rattle.rdfc_ndegree.proofs.nested_calls.next_member.Goals as goal

pub returns-then-at-named-clause-ok : goal.returns-then-at-named-clause-ok
returns-then-at-named-clause-ok c = λ algorithm rows k limits i p before spent h.
    let past : length c.args.state.members ≤ c.args.state.at = subst (λ xs. length xs ≤ c.args.state.at) c.as_slice-named.ensures (omega arith) in
    trail-ends (setting algorithm rows k limits) before spent i p c.args.state.path.items c.from_vec.result c.args.issuer.now c.args.state.tie (members_left c.args.state) c.from_vec.ensures (drop_of_length-le c.args.state.members past) h

pub returns-clause-ok : goal.returns-clause-ok
returns-clause-ok c = λ algorithm rows k limits i p before spent h.
    let s : Setting = setting algorithm rows k limits in
    let now = c.args.issuer.now in
    let member : ℕ = get_or c.as_slice-named.result.now c.args.state.at 0 in
    let at : c.unwrap_or-number.result ≡ unwrap_or (place_in c.args.issuer.now member) (length c.args.issuer.now) = rw (← c.number.ensures) (search rules) in
    trail-asks s before spent (number-or_length now member c.unwrap_or-number.result at)
    (subst (λ ms. TrailStands s i p (trail_so_far c.args.state now) ms (spending_of before spent)) (left-next c.args.state.members c.as_slice-named.result.now c.args.state.at c.as_slice-named.ensures (omega arith)) h)

pub returns-clause-lessens : goal.returns-clause-lessens
returns-clause-lessens c = λ most.
    member-weight c.args.state.members c.as_slice-named.result.now c.args.state.at c.as_slice-named.ensures (omega arith)
