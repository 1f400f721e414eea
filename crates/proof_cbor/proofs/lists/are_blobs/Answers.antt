use Rattle.std.proofs.Common.{sym}
use Rattle.std.specs.Prelude.{is_some}
use Rattle.proof_cbor.specs.Internal.Reading.{blob_kind, each_is}
use Rattle.proof_cbor.proofs.Each.{all_more, all_stops, all_end}
use Rattle.proof_cbor.proofs.lists.are_blobs.Goals as goal

pub loop-item-preserved : goal.loop-item-preserved
loop-item-preserved c = all_more blob_kind c.args.items.now c.loop-item.item-index c.item-item.result _ (is_some (each_is blob_kind c.args.items.now)) c.loop-item-test.true c.item-item.is (sym c.in-Some.ensures) c.loop-item.invariant

pub returns-in_default : goal.returns-in_default
returns-in_default c = all_stops blob_kind c.args.items.now c.loop-item.item-index c.item-item.result (is_some (each_is blob_kind c.args.items.now)) c.loop-item-test.true c.item-item.is (sym c.in_default.ensures) c.loop-item.invariant

pub returns : goal.returns
returns c = all_end blob_kind c.args.items.now c.loop-item.item-index (is_some (each_is blob_kind c.args.items.now)) c.loop-item-test.false c.loop-item.invariant
