use Rattle.std.proofs.Common.{rules}
use Rattle.std.specs.Ordering.{nat_cmp}
use Rattle.std.specs.Cmp.Lexicographic.{slice_cmp, nat_list_cmp_total}
use Rattle.std.proofs.lemmas.List.Sorted.{searchable_from_sorted}
use Rattle.std.proofs.lemmas.Fn.{always_returns_same}
use Rattle.base_types.proofs.Searching.{keys_sorted}
use Rattle.base_types.proofs.sorted.search_by_key.Goals as goal

pub returns-in-Ok : goal.returns-in-Ok
returns-in-Ok g c =
    let key = c.args.key.now in
    let text = g.T.Keyed.text in
    (c.in-Ok.ensures.bound, c.in-Ok.ensures.position (λ x. slice_cmp nat_cmp (text x) key) (always_returns_same _ _ _ (λ a r f k. (search rules, search rules))))

pub returns-in-Err : goal.returns-in-Err
returns-in-Err g c =
    let entries = c.args.entries.now in
    let key = c.args.key.now in
    let text = g.T.Keyed.text in
    let ends = c.in-Err.ensures.position (λ x. slice_cmp nat_cmp (text x) key) (always_returns_same _ _ _ (λ a r f k. (search rules, search rules))) in
    (c.in-Err.ensures.bound, ends (searchable_from_sorted nat_list_cmp_total text entries key (keys_sorted nat_list_cmp_total text entries c.requires)))
