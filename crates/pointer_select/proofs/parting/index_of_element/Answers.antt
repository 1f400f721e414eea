use Rattle.std.proofs.Common.{rules, ◌==◌}
use Rattle.std.proofs.lemmas.Cmp.{nat_cmp_total}
use Rattle.std.proofs.lemmas.List.Sorted.{searchable_from_sorted}
use Rattle.std.proofs.lemmas.Map.Lookups.{exact_unsigned}
use Rattle.std.proofs.lemmas.Fn.{always_returns_same}
use Rattle.base_types.proofs.Searching.{find_nowhere, keys_sorted}
use Rattle.json_tree.proofs.Elements.{indexes_rise, index_ties}
use Rattle.pointer_select.proofs.Children.{no_element, the_element}
use Rattle.pointer_select.proofs.parting.index_of_element.Goals as goal

pub returns-in-Ok : goal.returns-in-Ok
returns-in-Ok c =
    let equal = c.in-Ok.ensures.position (λ i. i.at) (always_returns_same _ _ _ (λ a r f k. (search rules, search rules))) in
    the_element c.args.items.now c.args.at c.in-Ok.found c.requires c.in-Ok.ensures.bound equal

pub returns-in-Err : goal.returns-in-Err
returns-in-Err c =
    let items = c.args.items.now in
    let ends = c.in-Err.ensures.position (λ i. i.at) (always_returns_same _ _ _ (λ a r f k. (search rules, search rules))) in
    let parts = ends (searchable_from_sorted nat_cmp_total (λ i. i.at) items c.args.at (keys_sorted nat_cmp_total (λ i. i.at) items (indexes_rise items c.requires))) in
    no_element c.args.at items (find_nowhere nat_cmp_total (λ i. i.at) ◌==◌ index_ties exact_unsigned items c.args.at _ parts.0 parts.1)
