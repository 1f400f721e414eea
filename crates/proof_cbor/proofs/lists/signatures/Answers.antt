use Rattle.std.proofs.Common.{[], length}
use Rattle.std.proofs.lemmas.Result.{err_from_is_err_and}
use Rattle.proof_cbor.specs.Internal.Reading.{ones_from, blob_kind}
use Rattle.proof_cbor.proofs.Each.{ones_more, ones_fail, ones_end}
use Rattle.proof_cbor.proofs.lists.signatures.Goals as goal

pub loop-item-preserved : goal.loop-item-preserved
loop-item-preserved c = rw c.in_ok-push.ensures.ok (ones_more blob_kind length c.args.part 64 c.args.items.now c.loop-item.item-index c.loop-item.signatures (ones_from blob_kind length c.args.part 64 [] c.args.items.now) c.item-item.result c.in_ok-signature.signature c.loop-item-test.true c.item-item.is c.in_ok-signature.ensures c.loop-item.invariant)

pub returns-in_err-signature : goal.returns-in_err-signature
returns-in_err-signature c =
    let p = err_from_is_err_and c.from_residual.result c.from_residual.ensures.1 in
    rw (p.1, p.2) (ones_fail blob_kind length c.args.part 64 c.args.items.now c.loop-item.item-index c.loop-item.signatures (ones_from blob_kind length c.args.part 64 [] c.args.items.now) c.in_err-signature.field-0.0 c.item-item.result c.loop-item-test.true c.item-item.is c.in_err-signature.ensures c.loop-item.invariant)

pub returns : goal.returns
returns c = ones_end blob_kind length c.args.part 64 c.args.items.now c.loop-item.item-index c.loop-item.signatures (ones_from blob_kind length c.args.part 64 [] c.args.items.now) c.loop-item-test.false c.loop-item.invariant
