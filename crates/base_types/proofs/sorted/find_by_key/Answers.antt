use Rattle.std.proofs.Common.{sym, ap, ◌∙◌, Some}
use Rattle.std.specs.Str.{bytes_eq}
use Rattle.std.specs.Cmp.Lexicographic.{nat_list_cmp_total}
use Rattle.std.proofs.lemmas.Map.Lookups.{exact_bytes}
use Rattle.base_types.proofs.Orders.{bytes_eq-cmp}
use Rattle.base_types.proofs.Searching.{find_found, find_nowhere}
use Rattle.base_types.proofs.sorted.find_by_key.Goals as goal

pub returns-in-Ok : goal.returns-in-Ok
returns-in-Ok g c =
    let entries = c.args.entries.now in
    let found = c.in-Ok.ensures in
    ap Some c.index-entries-at.is ∙ sym (find_found nat_list_cmp_total g.T.Keyed.text bytes_eq bytes_eq-cmp exact_bytes entries c.args.key.now c.in-Ok.at _ c.requires found.0 found.1)

pub returns-in-Err : goal.returns-in-Err
returns-in-Err g c =
    let nowhere = c.in-Err.ensures.1 in
    sym (find_nowhere nat_list_cmp_total g.T.Keyed.text bytes_eq bytes_eq-cmp exact_bytes c.args.entries.now c.args.key.now _ nowhere.0 nowhere.1)
