use Rattle.std.proofs.Common.{◌≡◌, ◌++◌, flat_map, drop}
use Rattle.std.specs.List.{list_any}
use Rattle.json_tree.specs.declared.tree.Tree.{Tree}
use Rattle.json_tree.specs.declared.tree.Item.{Item}
use Rattle.json_tree.specs.declared.tree.Member.{Member}
use Rattle.json_tree.specs.Trees.{holds_version}
use Rattle.jcs_text.specs.Canonical.{in_name_order}
use Rattle.jcs_text.specs.Internal.Writing.{item_tokens, member_tokens}
use Rattle.jcs_text.proofs.writing.+write.Given as goal

-- what is written and what is left to write, and that no version number was met
abbrev pub invariant-write_items-loop-item : goal.invariant-write_items-loop-item
invariant-write_items-loop-item l = record {
  written : l.out.tokens ++ flat_map item_tokens (drop l.item-index l.items) ≡ l.initial.out.tokens ++ flat_map item_tokens l.items;
  before : l.out.before ≡ l.initial.out.before;
  whole : list_any (λ (i : Item Tree). holds_version i.value) l.items ≡ list_any (λ (i : Item Tree). holds_version i.value) (drop l.item-index l.items);
}

-- the same of the members in the order of their names
abbrev pub invariant-write_members-loop-at : goal.invariant-write_members-loop-at
invariant-write_members-loop-at l =
    let ordered = in_name_order (λ (m : Member Tree). m.key) l.members in
    record {
      written : l.out.tokens ++ flat_map member_tokens (drop l.at-index ordered) ≡ l.initial.out.tokens ++ flat_map member_tokens ordered;
      before : l.out.before ≡ l.initial.out.before;
      whole : list_any (λ (m : Member Tree). holds_version m.value) l.members ≡ list_any (λ (m : Member Tree). holds_version m.value) (drop l.at-index ordered);
    }
