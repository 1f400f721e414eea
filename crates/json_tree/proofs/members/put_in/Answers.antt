use Rattle.std.proofs.Common.{◌≡◌, List, IfOk, sym, subst, ◌∙◌}
use Rattle.json_tree.specs.declared.tree.Tree.{Tree}
use Rattle.json_tree.specs.declared.tree.Member.{Member}
use Rattle.json_tree.proofs.MemberChanges.{put_at, put_between}
use Rattle.json_tree.proofs.members.put_in.Goals as goal

pub returns-in-Ok : goal.returns-in-Ok
returns-in-Ok c =
    let found = rw (c.as_slice.ensures, c.as_str.ensures) at c.in-Ok.ensures in
    c.set.ensures ∙ sym (put_at c.args.member c.args.members c.in-Ok.at c.requires found.0 found.1)

pub returns-in-Err : goal.returns-in-Err
returns-in-Err c =
    let parts = rw (c.as_slice.ensures, c.as_str.ensures) at c.in-Err.ensures in
    subst (λ (ms : List (Member Tree)). IfOk c.insert.result (λ all. all ≡ ms)) (sym (put_between c.args.member c.args.members c.in-Err.at parts.1 parts.0)) c.insert.ensures
