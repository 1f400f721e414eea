use Rattle.proof_cbor.proofs.Beginnings.{one_kind, one_base_hash, one_derived_hash}
use Rattle.proof_cbor.proofs.laws.a_text_is_of_one_kind_and_hash.Goals as goal

pub returns-clause-kind : goal.returns-clause-kind
returns-clause-kind c = λ text base derived s t. one_kind text base derived s t

pub returns-clause-base : goal.returns-clause-base
returns-clause-base c = λ text one other s t. one_base_hash text one other s t

pub returns-clause-derived : goal.returns-clause-derived
returns-clause-derived c = λ text one other s t. one_derived_hash text one other s t
