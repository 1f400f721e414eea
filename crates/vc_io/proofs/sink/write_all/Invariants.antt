use Rattle.std.proofs.Common.{◌-◌, ◌≤◌, length, take}
use Rattle.vc_io.specs.Bytes.{Wrote}
use Rattle.vc_io.proofs.sink.write_all.Given as goal

-- the bytes up to this place are written
abbrev pub invariant-loop-at : goal.invariant-loop-at
invariant-loop-at g l = Wrote (g.K.Sink.means l.initial.sink) (g.K.Sink.means l.sink) (take l.at l.bytes)
    × ((g.K.Sink.means l.initial.sink).faults ≤ (g.K.Sink.means l.sink).faults)
    × (l.at ≤ length l.bytes)

abbrev pub decreases-loop-at : goal.decreases-loop-at
decreases-loop-at g l = length l.bytes - l.at
