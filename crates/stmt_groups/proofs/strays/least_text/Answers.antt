use Rattle.std.proofs.Common.{List, map, subst}
use Rattle.std.proofs.lemmas.List.{take_all}
use Rattle.term_store.specs.declared.statements.Quad.{Quad}
use Rattle.stmt_groups.specs.Internal.Marking.{IsLeastOf}
use Rattle.stmt_groups.specs.Internal.Shown.{shown_text}
use Rattle.stmt_groups.proofs.StrayLemmas.{least_more}
use Rattle.stmt_groups.proofs.strays.least_text.Goals as goal

pub loop-quad-preserved : goal.loop-quad-preserved
loop-quad-preserved c =
    least_more (shown_text c.args.terms.now) c.args.quads.now c.loop-quad.quad-index _ c.loop-quad.least c.in_ok-text.text c.lesser.result c.loop-quad-test.true c.in_ok-text.ensures c.lesser.ensures c.loop-quad.invariant

pub returns : goal.returns
returns c =
    subst (λ (quads : List Quad). IsLeastOf (map (shown_text c.args.terms.now) quads) c.loop-quad.least) (take_all c.loop-quad.quad-index c.args.quads.now c.loop-quad-test.false) c.loop-quad.invariant
