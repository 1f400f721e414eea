use Rattle.std.proofs.Common.{ap, sym, ◌∙◌, ◌++◌, ◌∷◌, []}
use Rattle.jcs_text.proofs.NameOrders.{range-more}
use Rattle.jcs_text.proofs.naming.indexes.Goals as goal

pub loop-at-preserved : goal.loop-at-preserved
loop-at-preserved c = c.in_ok-push.ensures.items ∙ ap (λ ks. ks ++ c.loop-at.at ∷ []) c.loop-at.invariant ∙ sym (range-more c.loop-at.at)
