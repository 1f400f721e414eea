use Rattle.std.proofs.Common.{◌∙◌, arith}
use Rattle.pointer_select.proofs.Names.{element_at, element_nowhere, token_is, token_is_none, there_is, there_is_none}
use Rattle.pointer_select.proofs.naming.element_named.Goals as goal

pub returns-then-index-count : goal.returns-then-index-count
returns-then-index-count c =
    let r = c.ranges.count in
    let s = c.requires in
    there_is c.args.items.now c.in-Some.index c.index-items-index.result (omega (arith, c.if-index-count.true)) c.index-items-index.is ∙ element_at c.args.items.now c.args.token.now c.in-Some.index (omega arith) (omega arith) (token_is c.args.token.now _ c.in-Some.index c.in_ok-index.ensures c.in-Some.is)

pub returns-else-index-count : goal.returns-else-index-count
returns-else-index-count c =
    let r = c.ranges.count in
    let s = c.requires in
    there_is_none c.args.items.now c.in-Some.index (omega (arith, c.if-index-count.false)) ∙ element_at c.args.items.now c.args.token.now c.in-Some.index (omega arith) (omega arith) (token_is c.args.token.now _ c.in-Some.index c.in_ok-index.ensures c.in-Some.is)

pub returns-in-None : goal.returns-in-None
returns-in-None c =
    let r = c.ranges.count in
    let s = c.requires in
    element_nowhere c.args.items.now c.args.token.now (omega arith) (token_is_none c.args.token.now _ c.in_ok-index.ensures c.in-None.is)
