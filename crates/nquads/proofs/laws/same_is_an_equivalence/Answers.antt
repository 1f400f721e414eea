use Rattle.nquads.proofs.ReadingRenamings.{Same-from_elements, Same-refl, Same-sym, Same-trans}
use Rattle.nquads.proofs.laws.same_is_an_equivalence.Goals as goal

pub returns-clause-of_equal_sets : goal.returns-clause-of_equal_sets
returns-clause-of_equal_sets c = Same-from_elements

pub returns-clause-reflexive : goal.returns-clause-reflexive
returns-clause-reflexive c = Same-refl

pub returns-clause-symmetric : goal.returns-clause-symmetric
returns-clause-symmetric c = Same-sym

pub returns-clause-transitive : goal.returns-clause-transitive
returns-clause-transitive c = Same-trans
