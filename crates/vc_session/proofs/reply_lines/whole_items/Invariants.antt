use Rattle.std.proofs.Common.{◌≡◌, true, take}
use Rattle.std.specs.List.{list_all}
use Rattle.json_tree.specs.Trees.{is_in_range}
use Rattle.vc_session.specs.ReplyTrees.{whole_items}
use Rattle.vc_session.proofs.reply_lines.whole_items.Given as goal

-- the items are those of the numbers before, and are in range
abbrev pub invariant-loop-at : goal.invariant-loop-at
invariant-loop-at l = (l.items ≡ whole_items 0 (take l.at l.numbers)) × (list_all (λ i. is_in_range i.value) l.items ≡ true)
