use Rattle.std.proofs.Common.{List, [], sym, subst}
use Rattle.std.specs.List.{AllZip}
use Rattle.std.proofs.lemmas.List.{take_all}
use Rattle.nquads.specs.Stored.{IsKnown, IsLabelled}
use Rattle.stmt_groups.specs.declared.grouping.Line.{Line}
use Rattle.stmt_groups.specs.declared.marking.Mark.{Mark}
use Rattle.stmt_groups.specs.Internal.Grouping.{IsLineFor}
use Rattle.stmt_groups.proofs.GroupLemmas.{lines_more, of_mark}
use Rattle.stmt_groups.proofs.grouping.lines_of.Goals as goal

pub loop-mark-init : goal.loop-mark-init
loop-mark-init c = subst (λ (ls : List Line). AllZip (IsLineFor c.args.terms.now c.args.labels.now) [] ls) (sym c.in_ok-lines.ensures.items) tt

pub line_for-requires-clause-known : goal.line_for-requires-clause-known
line_for-requires-clause-known c = of_mark (IsKnown c.args.terms.now) c.args.marks.now c.loop-mark.mark-index _ c.loop-mark-test.true c.requires.known

pub line_for-requires-clause-labelled : goal.line_for-requires-clause-labelled
line_for-requires-clause-labelled c = of_mark (IsLabelled c.args.terms.now c.args.labels.now) c.args.marks.now c.loop-mark.mark-index _ c.loop-mark-test.true c.requires.labelled

pub loop-mark-preserved : goal.loop-mark-preserved
loop-mark-preserved c =
    lines_more (IsLineFor c.args.terms.now c.args.labels.now) c.args.marks.now c.loop-mark.mark-index _ c.loop-mark.lines.items c.push.new.self.items c.in_ok-line.line c.loop-mark-test.true c.in_ok-push.ensures.items c.in_ok-line.ensures c.loop-mark.invariant

pub returns : goal.returns
returns c =
    subst (λ (ms : List Mark). AllZip (IsLineFor c.args.terms.now c.args.labels.now) ms c.loop-mark.lines.items) (take_all c.loop-mark.mark-index c.args.marks.now c.loop-mark-test.false) c.loop-mark.invariant
