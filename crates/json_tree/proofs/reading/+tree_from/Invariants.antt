use Rattle.std.proofs.Common.{◌≡◌, ◌+◌, true, ◌++◌, vec_len}
use Rattle.std.specs.List.{list_all}
use Rattle.std.specs.Vec.Iter.{into_iter_items, into_iter_len}
use Rattle.serde_json.specs.View.{items_view, members_view}
use Rattle.json_tree.specs.Trees.{elements_of, entries_of, is_lawful, is_in_range}
use Rattle.json_tree.proofs.reading.+tree_from.Given as goal

-- what was read, followed by what is left to read
abbrev pub invariant-elements_from-loop-item : goal.invariant-elements_from-loop-item
invariant-elements_from-loop-item l = record {
  counted : l.at + into_iter_len l.item-iterator ≡ vec_len l.fn.values;
  read : elements_of 0 (items_view l.fn.values.items) ≡ l.elements ++ elements_of l.at (items_view (into_iter_items l.item-iterator));
  lawful : list_all (λ i. is_lawful i.value) l.elements ≡ true;
  in_range : list_all (λ i. is_in_range i.value) l.elements ≡ true;
}

abbrev pub invariant-members_from-loop-name : goal.invariant-members_from-loop-name
invariant-members_from-loop-name l = record {
  read : entries_of (members_view l.fn.map.entries) ≡ l.members ++ entries_of (members_view l.name-iterator);
  lawful : list_all (λ m. is_lawful m.value) l.members ≡ true;
  in_range : list_all (λ m. is_in_range m.value) l.members ≡ true;
}
