use Rattle.std.proofs.Common.{◌<◌, ◌≤◌, ◌∙◌, length, drop, sym, ap, subst, arith, drop_of_length-le}
use Rattle.rdfc_ndegree.specs.Internal.Progress.{spending_of}
use Rattle.rdfc_ndegree.specs.Internal.Frames.{Setting, setting, CallStands, data_in}
use Rattle.rdfc_ndegree.proofs.Tables.{table-digest}
use Rattle.rdfc_ndegree.proofs.Replies.{call-ends, call-asks, groups-next}
use Rattle.rdfc_ndegree.proofs.hash_groups.next_group.Goals as goal

pub returns-then-at-len-clause-ok : goal.returns-then-at-len-clause-ok
returns-then-at-len-clause-ok c = λ rows k limits n i now before spent h.
    let past : length c.args.state.groups.items ≤ c.args.state.at = omega (arith, c.args.state.groups.ok.0) in
    let digest = rw c.as_slice.ensures.value at c.digest_hex-digest.ensures in
    call-ends (setting c.args.hash rows k limits) before spent n i c.digest_hex-digest.result c.args.state.text.items now c.args.state.tie (drop c.args.state.at c.args.state.groups.items)
    (digest ∙ ap (λ d. d c.args.state.text.items) (sym (table-digest c.args.hash rows))) (drop_of_length-le c.args.state.groups.items past) h

pub returns-clause-ok : goal.returns-clause-ok
returns-clause-ok c = λ rows k limits n i now before spent h.
    let s : Setting = setting c.args.hash rows k limits in
    let within : c.args.state.at < length c.args.state.groups.items = omega (arith, c.args.state.groups.ok.0) in
    call-asks s before spent
    (subst (λ gs. CallStands s n i (data_in c.args.state now) gs (spending_of before spent))
    (groups-next c.args.state.groups.items c.args.state.at c.index-group.result.now c.in_ok-copy_of.field-0 within c.index-group.ensures c.in_ok-copy_of.ensures) h)
