use Rattle.proof_cbor.proofs.RefusingTexts.{one_base, one_derived}
use Rattle.proof_cbor.proofs.laws.a_text_has_one_outcome.Goals as goal

pub returns-clause-base : goal.returns-clause-base
returns-clause-base c = λ text r s x y. one_base text r s x y

pub returns-clause-derived : goal.returns-clause-derived
returns-clause-derived c = λ text r s x y. one_derived text r s x y
