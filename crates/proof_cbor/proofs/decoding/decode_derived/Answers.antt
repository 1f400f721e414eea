use Rattle.proof_cbor.proofs.Making.{derived_labels, derived_indexes, derived_digests, derived_count}
use Rattle.proof_cbor.proofs.RefusingTexts.{derived_exact}
use Rattle.std.proofs.Common.{Ok}
use Rattle.proof_cbor.proofs.decoding.decode_derived.Goals as goal

pub returns-clause-only : goal.returns-clause-only
returns-clause-only c = λ value s. derived_exact c.args.text.now c.read_derived.result (Ok value) c.read_derived.ensures.reads s

pub returns-clause-exact : goal.returns-clause-exact
returns-clause-exact c = λ outcome s. derived_exact c.args.text.now c.read_derived.result outcome c.read_derived.ensures.reads s

pub returns-clause-labels : goal.returns-clause-labels
returns-clause-labels c = derived_labels c.args.text.now c.read_derived.result c.read_derived.ensures.found

pub returns-clause-indexes : goal.returns-clause-indexes
returns-clause-indexes c = derived_indexes c.args.text.now c.read_derived.result c.read_derived.ensures.found

pub returns-clause-digests : goal.returns-clause-digests
returns-clause-digests c = derived_digests c.args.text.now c.read_derived.result c.read_derived.ensures.found

pub returns-clause-count : goal.returns-clause-count
returns-clause-count c = derived_count c.args.text.now c.read_derived.result c.read_derived.ensures.found
