use Rattle.std.proofs.Common.{◌≡◌, ◌∙◌, ap, length, arith, None, refl}
use Rattle.rdfc_ndegree.specs.Table.{table_nodes}
use Rattle.rdfc_ndegree.specs.NDegree.{recursion_list}
use Rattle.rdfc_ndegree.specs.Internal.Frames.{setting}
use Rattle.rdfc_ndegree.proofs.Exists.{walk-few}
use Rattle.rdfc_ndegree.proofs.Rows.{rows-count}
use Rattle.rdfc_ndegree.proofs.Replies.{trail-stands}
use Rattle.rdfc_ndegree.proofs.nested_calls.begin_trail.Goals as goal

pub returns-clause-ok : goal.returns-clause-ok
returns-clause-ok c = λ algorithm rows limits spent fit.
    let w = c.in_ok-path.ensures algorithm rows in
    c.next_member.ensures.ok algorithm rows c.args.canonical.now limits c.args.issuer.now c.args.arrangement.now spent spent
    (trail-stands (setting algorithm rows c.args.canonical.now limits) spent c.args.issuer.now c.args.arrangement.now c.into_vec.result.items c.walk_over.new.issuer None c.in_ok-path.field-0.recursion_list fit (c.into_vec.ensures ∙ w.0) w.1 refl w.2)

pub returns-clause-lessens : goal.returns-clause-lessens
returns-clause-lessens c = λ algorithm rows most laws listed enough.
    let w = c.in_ok-path.ensures algorithm rows in
    let few = walk-few (table_nodes algorithm rows) laws c.args.canonical.now c.args.issuer.now c.args.arrangement.now listed in
    let count = rows-count algorithm rows in
    let same : length c.in_ok-path.field-0.recursion_list ≡ length (recursion_list (table_nodes algorithm rows) c.args.canonical.now c.args.issuer.now c.args.arrangement.now) = ap length w.2 in
    let less = c.next_member.ensures.lessens most in
    omega arith
