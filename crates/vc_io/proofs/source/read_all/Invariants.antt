use Rattle.std.proofs.Common.{◌+◌, ◌-◌, ◌≤◌, length}
use Rattle.vc_io.specs.Bytes.{Gave}
use Rattle.vc_io.proofs.source.read_all.Given as goal

-- the bytes so far are those that the source gave, at most one more than max
abbrev pub invariant-loop-piece : goal.invariant-loop-piece
invariant-loop-piece g l = Gave (g.S.Source.means l.initial.source) (g.S.Source.means l.source) l.bytes.items
    × ((g.S.Source.means l.initial.source).faults ≤ (g.S.Source.means l.source).faults)
    × (length l.bytes.items ≤ l.max + 1)

abbrev pub decreases-loop-piece : goal.decreases-loop-piece
decreases-loop-piece g l = l.max + 1 - length l.bytes.items
