use Rattle.std.proofs.Common.{rules, sym, subst, IsTrue}
use Rattle.std.specs.Prelude.{All}
use Rattle.nquads.specs.Stored.{IsKnown, IsLabelled}
use Rattle.group_tests.proofs.groups.grouped.Goals as goal

pub group-requires-clause-known : goal.group-requires-clause-known
group-requires-clause-known c =
    let ready : IsTrue c.is_ready.result = search rules in
    subst (All (IsKnown c.args.terms.now)) (sym c.in_ok-marks.ensures.each) (c.is_ready.ensures.whole ready)

pub group-requires-clause-labelled : goal.group-requires-clause-labelled
group-requires-clause-labelled c =
    let ready : IsTrue c.is_ready.result = search rules in
    subst (All (IsLabelled c.args.terms.now c.args.labels.now)) (sym c.in_ok-marks.ensures.each) (c.is_ready.ensures.labelled ready)
