use Rattle.std.proofs.Common.{arith, slice_set, sym}
use Rattle.rdfc_ndegree.specs.Internal.Building.{related_nodes_at}
use Rattle.rdfc_ndegree.proofs.BuildLemmas.{push-None, push-same, push-other, related_at-past}
use Rattle.rdfc_ndegree.proofs.building.push_related.Goals as goal

pub returns-in_default : goal.returns-in_default
returns-in_default c = push-None c.args.rows.now.items c.args.node c.args.position c.args.predicate c.args.other c.in_default.is

pub returns-then-other-node : goal.returns-then-other-node
returns-then-other-node c = push-same c.args.rows.now.items c.args.node c.in-Some.other c.args.position c.args.predicate c.args.other c.in-Some.is c.if-other-node.true

pub returns-then-node-len : goal.returns-then-node-len
returns-then-node-len c = let f = c.if-node-len.true in let g = c.len.ensures in let long = c.args.rows.now.ok.0 in sym (related_at-past c.args.rows.now.items c.args.node (related_nodes_at c.args.node c.args.position c.args.predicate c.args.other) (omega arith))

pub returns : goal.returns
returns c =
    let f = c.if-node-len.false in
    let g = c.len.ensures in
    let long = c.args.rows.now.ok.0 in
    push-other c.args.rows.now.items c.args.node c.in-Some.other c.args.position c.args.predicate c.args.other c.index_mut.result.now c.push.new.self _ c.in-Some.is c.if-other-node.false (omega arith) c.index_mut.ensures.value c.in_ok-push.ensures.ok (λ i. slice_set c.args.rows.now.items c.args.node record { blank = c.index_mut.result.now.blank; first = c.index_mut.result.now.first; related = c.push.new.self })
