use Rattle.std.proofs.Common.{rules, sym, IsTrue}
use Rattle.std.proofs.lemmas.List.{take_all}
use Rattle.std.proofs.lemmas.List.Elements.{All-more, All-same}
use Rattle.nquads.specs.Stored.{IsKnown, IsLabelled}
use Rattle.group_tests.proofs.groups.are_labelled.Goals as goal

pub loop-quad-preserved : goal.loop-quad-preserved
loop-quad-preserved c =
    let passed : IsTrue c.is_labelled.result = search rules in (
      All-more (IsKnown c.args.terms.now) c.args.quads.now c.loop-quad.quad-index _ c.loop-quad-test.true c.loop-quad.invariant.0 (c.is_labelled.ensures.known passed),
      All-more (IsLabelled c.args.terms.now c.args.labels.now) c.args.quads.now c.loop-quad.quad-index _ c.loop-quad-test.true c.loop-quad.invariant.1 (c.is_labelled.ensures.labelled passed),
    )

pub returns-clause-known : goal.returns-clause-known
returns-clause-known c = λ _.
    All-same (IsKnown c.args.terms.now) c.args.quads.now _ (sym (take_all _ c.args.quads.now c.loop-quad-test.false)) c.loop-quad.invariant.0

pub returns-clause-labelled : goal.returns-clause-labelled
returns-clause-labelled c = λ _.
    All-same (IsLabelled c.args.terms.now c.args.labels.now) c.args.quads.now _ (sym (take_all _ c.args.quads.now c.loop-quad-test.false)) c.loop-quad.invariant.1
