use Rattle.std.proofs.Common.{◌≡◌, ◌++◌, ◌∷◌, ◌∙◌, [], refl, rules, sym, ap, arith}
use Rattle.nquads.specs.Stored.{find_number, number_label}
use Rattle.hmac_labels.proofs.Relabelling.{relabelled-none, relabelled-new, relabelled-next, at_some}
use Rattle.hmac_labels.proofs.labelling.with_texts.Goals as goal

pub loop-place-init : goal.loop-place-init
loop-place-init c = c.new-given.ensures ∙ sym (relabelled-none c.args.labels.now)

pub unreachable-requires : goal.unreachable-requires
unreachable-requires c =
    at_some c.args.labels.now c.loop-place.place (omega (arith, c.loop-place-test.true, c.len-place-end.ensures.count))
    c.in_default.ensures

pub push-requires : goal.push-requires
push-requires c =
    ap (λ xs. find_number xs c.in-Some.blank.index) c.loop-place.invariant
    ∙ relabelled-new c.args.labels.now c.args.texts.now c.loop-place.place
    (number_label c.in-Some.blank.index c.in-Some.field-0-1.now) c.len-place-end.ensures.differ (sym c.in-Some.ensures)

pub loop-place-preserved : goal.loop-place-preserved
loop-place-preserved c =
    let cloned : c.in_ok-clone.field-0 ≡ c.index-texts-place.result = search rules in
    c.in_ok-push.ensures.ok
    ∙ ap (λ xs. xs ++ number_label c.in-Some.blank.index c.in_ok-clone.field-0 ∷ []) c.loop-place.invariant
    ∙ sym (relabelled-next c.args.labels.now c.args.texts.now c.loop-place.place c.in-Some.blank.index c.in_ok-clone.field-0 _
    (number_label c.in-Some.blank.index c.in-Some.field-0-1.now)
    (omega (arith, c.loop-place-test.true, c.len-place-end.ensures.count, c.requires))
    (cloned ∙ c.index-texts-place.is) (sym c.in-Some.ensures) refl)
