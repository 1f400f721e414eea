use Rattle.std.proofs.Common.{refl, ap, sym, ◌∙◌, Some}
use Rattle.proof_cbor.specs.Internal.Reading.{text_kind, each_is}
use Rattle.proof_cbor.proofs.Each.{each_more, each_stops, each_end}
use Rattle.proof_cbor.proofs.lists.texts.Goals as goal

pub loop-item-preserved : goal.loop-item-preserved
loop-item-preserved c = rw c.in_ok-push.ensures.ok (each_more text_kind c.args.items.now c.loop-item.item-index c.item-item.result c.in_ok-from_str.field-0 c.loop-item.texts (each_is text_kind c.args.items.now) c.loop-item-test.true c.item-item.is (sym (ap Some c.in_ok-from_str.ensures ∙ c.in-Some.ensures)) c.loop-item.invariant)

pub returns-in_default : goal.returns-in_default
returns-in_default c = rw (each_stops text_kind c.args.items.now c.loop-item.item-index c.item-item.result c.loop-item.texts (each_is text_kind c.args.items.now) c.loop-item-test.true c.item-item.is (sym c.in_default.ensures) c.loop-item.invariant) refl

pub returns : goal.returns
returns c = rw (each_end text_kind c.args.items.now c.loop-item.item-index c.loop-item.texts (each_is text_kind c.args.items.now) c.loop-item-test.false c.loop-item.invariant) refl
