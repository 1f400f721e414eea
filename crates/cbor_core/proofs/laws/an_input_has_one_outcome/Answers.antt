use Rattle.cbor_core.proofs.Whole.{some_outcome, one_outcome}
use Rattle.cbor_core.proofs.laws.an_input_has_one_outcome.Goals as goal

pub returns-clause-some : goal.returns-clause-some
returns-clause-some c = λ bytes h. some_outcome bytes h

pub returns-clause-one : goal.returns-clause-one
returns-clause-one c = λ bytes r s x y. one_outcome bytes r s x y
