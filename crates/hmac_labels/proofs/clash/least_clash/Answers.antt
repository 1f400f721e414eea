use Rattle.std.proofs.Common.{◌==◌, ◌∙◌, rules, sym, Some, None}
use Rattle.std.specs.Cmp.Lexicographic.{pointwise}
use Rattle.indexmap.specs.IndexMap.{get}
use Rattle.hmac_labels.proofs.Turns.{turned}
use Rattle.hmac_labels.proofs.clash.least_clash.Goals as goal

pub loop-text-preserved-in-Some-2 : goal.loop-text-preserved-in-Some-2
loop-text-preserved-in-Some-2 c =
    turned c.args.texts.now c.loop-text.rest.now c.in-Some.earlier.now c.in-Some.text.now c.in_ok-clone.field-0
    c.loop-text.least (Some c.in-Some-2.later) (get (pointwise ◌==◌) c.loop-text.places) (get (pointwise ◌==◌) c.insert.new.self)
    c.in-Some.ensures.cases (search rules) c.loop-text.invariant
    (sym c.in-Some-2.is ∙ c.in_ok-later.ensures.old) c.in_ok-later.ensures.updates.0

pub loop-text-preserved : goal.loop-text-preserved
loop-text-preserved c =
    turned c.args.texts.now c.loop-text.rest.now c.in-Some.earlier.now c.in-Some.text.now c.in_ok-clone.field-0
    c.loop-text.least None (get (pointwise ◌==◌) c.loop-text.places) (get (pointwise ◌==◌) c.insert.new.self)
    c.in-Some.ensures.cases (search rules) c.loop-text.invariant
    (sym c.in_default-2.is ∙ c.in_ok-later.ensures.old) c.in_ok-later.ensures.updates.0
