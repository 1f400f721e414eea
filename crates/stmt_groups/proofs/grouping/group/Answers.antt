use Rattle.std.proofs.Common.{List, sym, subst}
use Rattle.std.specs.Prelude.{All}
use Rattle.std.specs.List.{AllZip}
use Rattle.nquads.specs.Stored.{IsKnown, IsLabelled, labels_by_text}
use Rattle.nquads.specs.Texts.{label_in}
use Rattle.stmt_groups.specs.contracts.grouping.LineOrd.TheImpl.Laws.{matches_eq-law}
use Rattle.stmt_groups.specs.declared.marking.Mark.{Mark}
use Rattle.stmt_groups.specs.Groups.{AreGroups}
use Rattle.stmt_groups.specs.Parts.{marked_quads}
use Rattle.stmt_groups.specs.Internal.Grouping.{IsLineFor}
use Rattle.stmt_groups.proofs.GroupLemmas.{are_groups}
use Rattle.stmt_groups.proofs.LineOrder.{sorted_lines}
use Rattle.stmt_groups.proofs.grouping.group.Goals as goal

pub lines_of-requires-clause-known : goal.lines_of-requires-clause-known
lines_of-requires-clause-known c = subst (λ (ms : List Mark). All (IsKnown c.args.terms.now) (marked_quads ms)) (sym c.as_slice.ensures.same) c.requires.known

pub lines_of-requires-clause-labelled : goal.lines_of-requires-clause-labelled
lines_of-requires-clause-labelled c =
    subst (λ (ms : List Mark). All (IsLabelled c.args.terms.now c.args.labels.now) (marked_quads ms)) (sym c.as_slice.ensures.same) c.requires.labelled

pub returns : goal.returns
returns c = λ p are.
    let texts = c.args.terms.now in
    let labels = c.args.labels.now in
    let made = subst (λ (ms : List Mark). AllZip (IsLineFor texts labels) ms c.in_ok-lines.lines.items) c.as_slice.ensures.same c.in_ok-lines.ensures in
    let left = sorted_lines matches_eq-law c.in_ok-lines.lines.items c.sort_unstable.new.self.items c.dedup.new.self.items c.sort_unstable.ensures.permutation c.sort_unstable.ensures.sorted c.dedup.ensures.filtered in
    subst (AreGroups (label_in (labels_by_text texts labels)) p) (sym c.from_vec.ensures)
    (are_groups texts labels p c.args.marks.now c.in_ok-lines.lines.items c.dedup.new.self.items are made left.0 left.1.0 left.1.1)
