use Rattle.std.proofs.Common.{take}
use Rattle.std.specs.List.{AllZip}
use Rattle.stmt_groups.specs.Internal.Grouping.{IsLineFor}
use Rattle.stmt_groups.proofs.grouping.lines_of.Given as goal

abbrev pub invariant-loop-mark : goal.invariant-loop-mark
invariant-loop-mark l = AllZip (IsLineFor l.terms l.labels) (take l.mark-index l.marks) l.lines.items
