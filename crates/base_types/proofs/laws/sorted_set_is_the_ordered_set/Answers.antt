use Rattle.base_types.proofs.Rising.{rising-rises, rising-same, rising-only, rising-free}
use Rattle.base_types.proofs.laws.sorted_set_is_the_ordered_set.Goals as goal

pub returns : goal.returns
returns c = record { rises = rising-rises; same = rising-same; only = rising-only; any_list = rising-free }
