use Rattle.std.proofs.Common.{ap, ◌∙◌}
use Rattle.cbor_core.specs.declared.item.Item.TheVariants as v
use Rattle.proof_cbor.proofs.Making.{labels_more}
use Rattle.proof_cbor.proofs.items.labels_item.Goals as goal

pub loop-label-preserved : goal.loop-label-preserved
loop-label-preserved c =
    labels_more c.args.labels.now c.loop-label.label-index c.label-item.result c.loop-label.pairs c.push.new.self c.in_ok-value.value c.loop-label-test.true c.label-item.is (c.in_ok-value.ensures ∙ ap v.Blob c.as_slice.ensures) c.in_ok-push.ensures.ok c.loop-label.invariant
