use Rattle.std.proofs.Common.{Err, ap, ◌∙◌}
use Rattle.std.proofs.lemmas.Result.{err_from_is_err_and}
use Rattle.proof_cbor.specs.declared.fault.ValueFault.{ValueFault}
use Rattle.proof_cbor.proofs.Spelled.{derived_result}
use Rattle.proof_cbor.proofs.RefusingTexts.{derived_reads, derived_text_reads, derived_item_reads}
use Rattle.proof_cbor.proofs.decoding.read_derived.Goals as goal

pub returns-clause-found : goal.returns-clause-found
returns-clause-found c =
    derived_result c.args.text.now c.in_ok-bytes.bytes.items c.in_ok-hash.hash c.in_ok-hash.item c.derived_in.result c.in_ok-bytes.ensures.text (rw c.deref.ensures.value at c.in_ok-hash.ensures) c.derived_in.ensures

pub returns-clause-reads : goal.returns-clause-reads
returns-clause-reads c =
    derived_reads c.args.text.now c.in_ok-bytes.bytes.items c.in_ok-hash.hash c.in_ok-hash.item c.derived_in.result c.in_ok-bytes.ensures.text (rw c.deref.ensures.value at c.in_ok-hash.ensures) c.derived_in.ensures

pub returns-in_err-bytes-clause-reads : goal.returns-in_err-bytes-clause-reads
returns-in_err-bytes-clause-reads c =
    let p = err_from_is_err_and c.from_residual.result c.from_residual.ensures.1 in
    derived_text_reads c.args.text.now c.in_err-bytes.field-0.0 c.from_residual.result (p.1 ∙ ap (λ (e : ValueFault). Err e) p.2) c.in_err-bytes.ensures.exact

pub returns-in_err-hash-clause-reads : goal.returns-in_err-hash-clause-reads
returns-in_err-hash-clause-reads c =
    let p = err_from_is_err_and c.from_residual-in_err-hash.result c.from_residual-in_err-hash.ensures.1 in
    derived_item_reads c.args.text.now c.in_ok-bytes.bytes.items c.in_err-hash.field-0.0 c.from_residual-in_err-hash.result (p.1 ∙ ap (λ (e : ValueFault). Err e) p.2) c.in_ok-bytes.ensures.text (rw c.deref.ensures.value at c.in_err-hash.ensures)
