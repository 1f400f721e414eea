use Rattle.nquads.proofs.NumberLemmas.{numbers-differ}
use Rattle.nquads.proofs.numbers.Labels.len.Goals as goal

pub returns-clause-differ : goal.returns-clause-differ
returns-clause-differ c = rw (← c.self.view_is) (numbers-differ c.self.inside.labels.entries c.len.ensures.unique)
