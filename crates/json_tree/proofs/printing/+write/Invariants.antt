use Rattle.std.proofs.Common.{◌≡◌, ◌++◌, map, drop}
use Rattle.json.specs.Tree.{items_tokens, members_tokens}
use Rattle.json_tree.specs.Prints.{json_items, json_members}
use Rattle.json_tree.specs.Internal.Writes.{item_json, member_json}
use Rattle.json_tree.proofs.printing.+write.Given as goal

-- what is written, and what is left to write
abbrev pub invariant-write_items-loop-item : goal.invariant-write_items-loop-item
invariant-write_items-loop-item l = record {
  written : l.out.tokens ++ items_tokens (json_items (map item_json (drop l.item-index l.items))) ≡ l.initial.out.tokens ++ items_tokens (json_items (map item_json l.items));
  before : l.out.before ≡ l.initial.out.before;
}

abbrev pub invariant-write_members-loop-member : goal.invariant-write_members-loop-member
invariant-write_members-loop-member l = record {
  written : l.out.tokens ++ members_tokens (json_members (map member_json (drop l.member-index l.members))) ≡ l.initial.out.tokens ++ members_tokens (json_members (map member_json l.members));
  before : l.out.before ≡ l.initial.out.before;
}
