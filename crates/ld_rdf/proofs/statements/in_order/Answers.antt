use Rattle.std.proofs.Common.{◌∙◌}
use Rattle.std.specs.Str.{bytes_eq}
use Rattle.std.proofs.lemmas.List.Filters.{dedup_is}
use Rattle.base_types.proofs.Rising.{rising-dedup}
use Rattle.ld_rdf.proofs.statements.in_order.Goals as goal

pub returns : goal.returns
returns c =
    c.from_vec.ensures ∙ dedup_is bytes_eq _ _ c.dedup.ensures.filtered
    ∙ rising-dedup _ _ c.sort_unstable.ensures.permutation c.sort_unstable.ensures.sorted
