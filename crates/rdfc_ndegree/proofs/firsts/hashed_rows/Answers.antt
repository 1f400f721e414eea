use Rattle.std.proofs.Common.{refl, ap, ◌≡◌, ◌∙◌, map, arith}
use Rattle.rdfc_ndegree.specs.Internal.Grouping.{row_hash}
use Rattle.rdfc_ndegree.specs.Table.{numbers_below}
use Rattle.rdfc_ndegree.proofs.FirstGroups.{rows-next, first-there}
use Rattle.rdfc_ndegree.proofs.firsts.hashed_rows.Goals as goal

pub loop-node-preserved : goal.loop-node-preserved
loop-node-preserved c = rows-next c.args.table.now c.loop-node.hashed.items c.push.new.self.items c.loop-node.node c.in-Some.first _ c.loop-node.invariant c.in-Some.ensures refl refl refl c.in_ok-push.ensures.items

pub returns-in_default : goal.returns-in_default
returns-in_default c = first-there c.args.table.now c.loop-node.node c.len-node-end.result c.loop-node-test.true c.len-node-end.ensures.count c.in_default.ensures

pub returns : goal.returns
returns c =
    let over = c.loop-node-test.false in
    let within = c.loop-node.auto.node-end in
    let last : c.loop-node.node ≡ c.len-node-end.result = omega arith in
    c.loop-node.invariant ∙ ap (λ n. map (row_hash c.args.table.now) (numbers_below n)) (last ∙ c.len-node-end.ensures.count)
