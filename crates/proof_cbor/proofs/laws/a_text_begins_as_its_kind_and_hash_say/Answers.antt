use Rattle.digest_mac.specs.declared.hash.Hash.TheVariants.{Sha256, Sha384}
use Rattle.proof_cbor.proofs.Beginnings.{base_begins, derived_begins}
use Rattle.proof_cbor.proofs.laws.a_text_begins_as_its_kind_and_hash_say.Goals as goal

pub returns-clause-base_sha256 : goal.returns-clause-base_sha256
returns-clause-base_sha256 c = λ value by long. base_begins Sha256 value by long

pub returns-clause-base_sha384 : goal.returns-clause-base_sha384
returns-clause-base_sha384 c = λ value by long. base_begins Sha384 value by long

pub returns-clause-derived_sha256 : goal.returns-clause-derived_sha256
returns-clause-derived_sha256 c = λ value by long. derived_begins Sha256 value by long

pub returns-clause-derived_sha384 : goal.returns-clause-derived_sha384
returns-clause-derived_sha384 c = λ value by long. derived_begins Sha384 value by long
