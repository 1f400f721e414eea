use Rattle.std.proofs.Common.{◌≡◌, ◌+◌, drop}
use Rattle.rdfc_first.specs.Internal.Grouping.{run_of}
use Rattle.rdfc_first.proofs.grouping.run_length.Given as goal

abbrev pub invariant-loop-line : goal.invariant-loop-line
invariant-loop-line l = (l.length ≡ l.line-index) × (run_of l.blank l.lines ≡ l.length + run_of l.blank (drop l.line-index l.lines))
