use Rattle.stmt_groups.specs.Parts.{IsMissing}
use Rattle.stmt_groups.proofs.StrayLemmas.{gained_in_three}
use Rattle.stmt_groups.proofs.strays.all_strays.Goals as goal

pub returns : goal.returns
returns c =
    let must = c.args.mandatory.now in
    let may = c.args.chosen.now in
    let whole = c.args.in_whole.now in
    let shown = c.args.in_chosen.now in
    gained_in_three (IsMissing must whole) (IsMissing may whole) (IsMissing must shown) c.new-strays.result.items c.push_all_missing.new.strays.items c.push_all_missing-2.new.strays.items c.push_all_missing-3.new.strays.items
    c.new-strays.ensures.items c.in_ok-push_all_missing.ensures c.in_ok-push_all_missing-2.ensures c.in_ok-push_all_missing-3.ensures
