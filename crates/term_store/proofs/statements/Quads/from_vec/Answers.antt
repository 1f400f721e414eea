use Rattle.term_store.specs.contracts.statements.QuadOrd.TheImpl.Laws.{matches_eq-law}
use Rattle.term_store.proofs.QuadLemmas.{sorted_set}
use Rattle.term_store.proofs.statements.Quads.from_vec.Goals as goal

pub invariant_of-result : goal.invariant_of-result
invariant_of-result c = (sorted_set matches_eq-law _ _ _ c.sort_unstable.ensures.permutation c.sort_unstable.ensures.sorted c.dedup.ensures.filtered).1

pub returns-clause-same : goal.returns-clause-same
returns-clause-same c = (sorted_set matches_eq-law _ _ _ c.sort_unstable.ensures.permutation c.sort_unstable.ensures.sorted c.dedup.ensures.filtered).0

pub returns-clause-differ : goal.returns-clause-differ
returns-clause-differ c = (sorted_set matches_eq-law _ _ _ c.sort_unstable.ensures.permutation c.sort_unstable.ensures.sorted c.dedup.ensures.filtered).1
