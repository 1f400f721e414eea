use Rattle.std.proofs.Common.{List, subst}
use Rattle.std.proofs.lemmas.List.{take_all}
use Rattle.term_store.specs.declared.statements.Quad.{Quad}
use Rattle.stmt_groups.specs.Parts.{IsMissing}
use Rattle.stmt_groups.specs.Internal.Marking.{Gains}
use Rattle.stmt_groups.proofs.StrayLemmas.{gains_more, gains_nothing}
use Rattle.stmt_groups.proofs.strays.push_all_missing.Goals as goal

pub loop-quad-init : goal.loop-quad-init
loop-quad-init c = gains_nothing c.args.strays.now.items c.args.set.now

pub loop-quad-preserved : goal.loop-quad-preserved
loop-quad-preserved c =
    gains_more c.args.strays.now.items c.loop-quad.strays.items c.push_missing.new.strays.items c.args.set.now c.args.part.now c.loop-quad.quad-index _ c.loop-quad-test.true c.loop-quad.invariant c.in_ok-push_missing.ensures

pub returns : goal.returns
returns c =
    subst (λ (part : List Quad). Gains c.args.strays.now.items c.loop-quad.strays.items (IsMissing part c.args.set.now)) (take_all c.loop-quad.quad-index c.args.part.now c.loop-quad-test.false) c.loop-quad.invariant
