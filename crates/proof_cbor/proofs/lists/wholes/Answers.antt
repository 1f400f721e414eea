use Rattle.std.proofs.Common.{refl, sym}
use Rattle.proof_cbor.specs.Internal.Reading.{whole_kind, each_is}
use Rattle.proof_cbor.proofs.Each.{each_more, each_stops, each_end}
use Rattle.proof_cbor.proofs.lists.wholes.Goals as goal

pub loop-item-preserved : goal.loop-item-preserved
loop-item-preserved c = rw c.in_ok-push.ensures.ok (each_more whole_kind c.args.items.now c.loop-item.item-index c.item-item.result c.in-Some.whole c.loop-item.wholes (each_is whole_kind c.args.items.now) c.loop-item-test.true c.item-item.is (sym c.in-Some.ensures) c.loop-item.invariant)

pub returns-in_default : goal.returns-in_default
returns-in_default c = rw (each_stops whole_kind c.args.items.now c.loop-item.item-index c.item-item.result c.loop-item.wholes (each_is whole_kind c.args.items.now) c.loop-item-test.true c.item-item.is (sym c.in_default.ensures) c.loop-item.invariant) refl

pub returns : goal.returns
returns c = rw (each_end whole_kind c.args.items.now c.loop-item.item-index c.loop-item.wholes (each_is whole_kind c.args.items.now) c.loop-item-test.false c.loop-item.invariant) refl
