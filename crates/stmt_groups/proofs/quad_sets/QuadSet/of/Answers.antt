use Rattle.std.proofs.Common.{[], List, sym, subst}
use Rattle.std.proofs.lemmas.List.{take_all}
use Rattle.base_types.specs.Sets.{SameElements}
use Rattle.base_types.proofs.Lists.{SameElements-refl}
use Rattle.term_store.specs.declared.statements.Quad.{Quad}
use Rattle.stmt_groups.proofs.SetLemmas.{one_more_added}
use Rattle.stmt_groups.proofs.quad_sets.QuadSet.of.Goals as goal

pub loop-quad-init : goal.loop-quad-init
loop-quad-init c = subst (λ (s : List Quad). SameElements s []) (sym c.new-set.ensures) (SameElements-refl [])

pub loop-quad-preserved : goal.loop-quad-preserved
loop-quad-preserved c = one_more_added c.loop-quad.set c.add.new.self c.args.quads.now c.loop-quad.quad-index _ c.loop-quad-test.true c.loop-quad.invariant c.in_ok-add.ensures

pub returns : goal.returns
returns c = subst (SameElements c.loop-quad.set) (take_all c.loop-quad.quad-index c.args.quads.now c.loop-quad-test.false) c.loop-quad.invariant
