use Rattle.std.proofs.Common.{rules, sym, IsTrue}
use Rattle.std.proofs.lemmas.List.{take_all}
use Rattle.std.proofs.lemmas.List.Elements.{All-more, All-same}
use Rattle.nquads.specs.Stored.{IsLabelled}
use Rattle.statement_tests.proofs.writing.are_labelled.Goals as goal

pub loop-quad-preserved : goal.loop-quad-preserved
loop-quad-preserved c =
    let passed : IsTrue c.is_labelled.result = search rules in
    All-more (IsLabelled c.args.terms.now c.args.labels.now) c.args.quads.now c.loop-quad.quad-index _ c.loop-quad-test.true c.loop-quad.invariant (c.is_labelled.ensures passed)

pub returns : goal.returns
returns c = λ _.
    All-same (IsLabelled c.args.terms.now c.args.labels.now) c.args.quads.now _ (sym (take_all _ c.args.quads.now c.loop-quad-test.false)) c.loop-quad.invariant
