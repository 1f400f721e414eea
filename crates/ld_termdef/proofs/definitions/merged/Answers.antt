use Rattle.std.proofs.Common.{◌≡◌, ◌++◌, ap, ◌∙◌}
use Rattle.ld_termdef.proofs.Layered.{takes-end, merged-end}
use Rattle.ld_termdef.proofs.definitions.merged.Goals as goal

pub returns : goal.returns
returns c =
    let end = takes-end _ _ _ _ _ c.in_ok-over_rest.field-0 (cc c.in_default.is) c.in_ok-over_rest.ensures in
    merged-end c.loop-made.made c.loop-made.upper.now c.loop-made.lower.now c.args.over.now c.args.under.now c.push_all.new.made c.push_all-2.new.made c.loop-made.invariant.0 c.loop-made.invariant.1 end.1 (c.in_ok-push_all.ensures ∙ ap (λ es. es ++ c.loop-made.upper.now) end.0) c.in_ok-push_all-2.ensures
