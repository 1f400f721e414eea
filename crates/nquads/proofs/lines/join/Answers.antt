use Rattle.std.proofs.Common.{sym, ◌∙◌, ◌++◌}
use Rattle.nquads.proofs.LineLemmas.{concat-more}
use Rattle.nquads.proofs.lines.join.Goals as goal

pub loop-text-preserved : goal.loop-text-preserved
loop-text-preserved c =
    c.in_ok-extend_from_slice.ensures.items
    ∙ (λ i. c.loop-text.invariant i ++ c.as_bytes.ensures i)
    ∙ sym (concat-more c.args.texts.now c.loop-text.text-index c.text-item.result c.loop-text-test.true c.text-item.is)
