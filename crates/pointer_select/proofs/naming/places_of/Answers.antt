use Rattle.std.proofs.Common.{◌≡◌, Some, ap, ◌∙◌}
use Rattle.pointer_select.proofs.Names.{missing_first, no_steps}
use Rattle.pointer_select.proofs.naming.places_of.Goals as goal

pub returns-in-None-clause-missing : goal.returns-in-None-clause-missing
returns-in-None-clause-missing c index is =
    let same : c.loop-index.index ≡ index = cc (is) in
    missing_first c.args.pointers.now c.args.tree.now c.loop-index.index _ c.index-pointers-index.result c.loop-index.invariant c.loop-index-test.true c.index-pointers-index.is (no_steps _ _ c.in-None.is c.in_ok-place.ensures) ∙ ap Some same
