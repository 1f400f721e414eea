use Rattle.std.proofs.Common.{sym, ◌∙◌}
use Rattle.json_tree.proofs.MemberChanges.{without_at, without_nowhere}
use Rattle.json_tree.proofs.members.taken_out.Goals as goal

pub returns-in-Ok : goal.returns-in-Ok
returns-in-Ok c =
    let found = rw c.as_slice.ensures at c.in-Ok.ensures in
    c.remove.ensures.rest ∙ sym (without_at c.args.key.now c.args.members c.in-Ok.at c.requires found.0 found.1)

pub returns-in-Err : goal.returns-in-Err
returns-in-Err c =
    let parts = rw c.as_slice.ensures at c.in-Err.ensures in
    sym (without_nowhere c.args.key.now c.args.members c.in-Err.field-0 parts.1)
