use Rattle.std.proofs.Common.{rules}
use Rattle.rdfc_ndegree.proofs.Walks.{entry-made}
use Rattle.rdfc_ndegree.proofs.walk.push_path_part.Goals as goal

pub returns : goal.returns
returns c = λ algorithm rows i m at.
    entry-made algorithm rows i m c.args.number c.args.hash c.as_bytes.result.now c.args.path.now.items
    _ _ _ _ at (search rules) c.in_ok-push_temporary.ensures c.in_ok-push.ensures.items c.in_ok-extend_from_slice.ensures.items c.in_ok-push-2.ensures.items
