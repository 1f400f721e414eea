use Rattle.nquads.proofs.NumberSets.{number_set}
use Rattle.nquads.proofs.blanks.each_once.Goals as goal

pub returns-clause-same : goal.returns-clause-same
returns-clause-same c =
    (number_set c.args.ids.items c.sort_unstable.new.self.items c.dedup.new.self.items c.sort_unstable.ensures.permutation c.sort_unstable.ensures.sorted c.dedup.ensures.filtered).0

pub returns-clause-differ : goal.returns-clause-differ
returns-clause-differ c =
    (number_set c.args.ids.items c.sort_unstable.new.self.items c.dedup.new.self.items c.sort_unstable.ensures.permutation c.sort_unstable.ensures.sorted c.dedup.ensures.filtered).1
