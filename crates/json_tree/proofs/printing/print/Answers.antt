use Rattle.std.proofs.Common.{ap, ◌∙◌, ◌++◌}
use Rattle.json.specs.Print.{print}
use Rattle.json_tree.proofs.Compact.{compact_of-whole}
use Rattle.json_tree.proofs.RoundTrip.{round_trip}
use Rattle.json_tree.proofs.Writing.{printed_whole, printed_tokens}
use Rattle.json_tree.proofs.printing.print.Goals as goal

pub returns-clause-compact : goal.returns-clause-compact
returns-clause-compact c =
    printed_whole c.args.tree.now _ c.new-out.result c.write_tree.new.out (c.new-out.ensures.before ∙ c.new.ensures.items) c.new-out.ensures.tokens c.in_ok-write_tree.ensures c.into_inner.ensures.items

pub returns-clause-text : goal.returns-clause-text
returns-clause-text c none =
    printed_whole c.args.tree.now _ c.new-out.result c.write_tree.new.out (c.new-out.ensures.before ∙ c.new.ensures.items) c.new-out.ensures.tokens c.in_ok-write_tree.ensures c.into_inner.ensures.items
    ∙ compact_of-whole c.args.tree.now none

pub returns-clause-reads_back : goal.returns-clause-reads_back
returns-clause-reads_back c shallow placed =
    let w = c.in_ok-write_tree.ensures in
    let alone = c.into_inner.ensures.items ∙ ap (λ bs. bs ++ print c.write_tree.new.out.tokens) (w.before ∙ c.new-out.ensures.before ∙ c.new.ensures.items) in
    round_trip c.args.tree.now _ c.write_tree.new.out.tokens alone c.into_inner.ensures.reads_back c.into_inner.ensures.utf8 (printed_tokens c.args.tree.now c.new-out.result c.write_tree.new.out c.new-out.ensures.tokens w) c.requires shallow placed
