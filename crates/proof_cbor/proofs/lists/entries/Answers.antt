use Rattle.std.proofs.Common.{[]}
use Rattle.std.proofs.lemmas.Result.{err_from_is_err_and}
use Rattle.digest_mac.specs.Digests.{digest_size}
use Rattle.proof_cbor.specs.Internal.Reading.{ones_from, entry_kind, digest_length}
use Rattle.proof_cbor.proofs.Each.{ones_more, ones_fail, ones_end}
use Rattle.proof_cbor.proofs.lists.entries.Goals as goal

pub loop-pair-preserved : goal.loop-pair-preserved
loop-pair-preserved c = rw c.in_ok-push.ensures.ok (ones_more entry_kind digest_length c.args.part (digest_size c.args.hash) c.args.pairs.now c.loop-pair.pair-index c.loop-pair.entries (ones_from entry_kind digest_length c.args.part (digest_size c.args.hash) [] c.args.pairs.now) c.pair-item.result c.in_ok-entry.entry c.loop-pair-test.true c.pair-item.is c.in_ok-entry.ensures c.loop-pair.invariant)

pub returns-in_err-entry : goal.returns-in_err-entry
returns-in_err-entry c =
    let p = err_from_is_err_and c.from_residual.result c.from_residual.ensures.1 in
    rw (p.1, p.2) (ones_fail entry_kind digest_length c.args.part (digest_size c.args.hash) c.args.pairs.now c.loop-pair.pair-index c.loop-pair.entries (ones_from entry_kind digest_length c.args.part (digest_size c.args.hash) [] c.args.pairs.now) c.in_err-entry.field-0.0 c.pair-item.result c.loop-pair-test.true c.pair-item.is c.in_err-entry.ensures c.loop-pair.invariant)

pub returns : goal.returns
returns c = ones_end entry_kind digest_length c.args.part (digest_size c.args.hash) c.args.pairs.now c.loop-pair.pair-index c.loop-pair.entries (ones_from entry_kind digest_length c.args.part (digest_size c.args.hash) [] c.args.pairs.now) c.loop-pair-test.false c.loop-pair.invariant
