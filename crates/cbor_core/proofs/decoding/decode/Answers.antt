use Rattle.std.proofs.Common.{arith}
use Rattle.cbor_core.proofs.Whole.{found_by, keys_by, nesting_by, count_by, reads_by, exact_by, gives_reading, read_again, read_trailing}
use Rattle.std.proofs.Common.{sym, ◌∙◌}
use Rattle.cbor_core.specs.Internal.Reading.{reading}
use Rattle.cbor_core.proofs.decoding.decode.Goals as goal

pub returns-clause-found : goal.returns-clause-found
returns-clause-found c = found_by c.args.bytes.now c.read_all.result (λ i. omega (arith, c.type_inv.bytes i)) c.read_all.ensures

pub returns-clause-only : goal.returns-clause-only
returns-clause-only c = λ item count le s ne. sym (gives_reading c.read_all.result (reading c.args.bytes.now) c.read_all.ensures ne) ∙ read_again c.args.bytes.now item count le s

pub returns-clause-trailing : goal.returns-clause-trailing
returns-clause-trailing c = λ item count n lt le s ne. sym (gives_reading c.read_all.result (reading c.args.bytes.now) c.read_all.ensures ne) ∙ read_trailing c.args.bytes.now item count n lt le s

pub returns-clause-reads : goal.returns-clause-reads
returns-clause-reads c = reads_by c.args.bytes.now c.read_all.result (λ i. omega (arith, c.type_inv.bytes i)) c.read_all.ensures

pub returns-clause-exact : goal.returns-clause-exact
returns-clause-exact c = λ outcome s. exact_by c.args.bytes.now c.read_all.result outcome s c.read_all.ensures

pub returns-clause-keys : goal.returns-clause-keys
returns-clause-keys c = keys_by c.args.bytes.now c.read_all.result (λ i. omega (arith, c.type_inv.bytes i)) c.read_all.ensures

pub returns-clause-nesting : goal.returns-clause-nesting
returns-clause-nesting c = nesting_by c.args.bytes.now c.read_all.result (λ i. omega (arith, c.type_inv.bytes i)) c.read_all.ensures

pub returns-clause-count : goal.returns-clause-count
returns-clause-count c = count_by c.args.bytes.now c.read_all.result (λ i. omega (arith, c.type_inv.bytes i)) c.read_all.ensures
