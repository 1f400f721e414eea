use Rattle.std.proofs.Common.{take}
use Rattle.std.specs.Prelude.{All}
use Rattle.nquads.specs.Stored.{IsKnown, IsLabelled}
use Rattle.group_tests.proofs.groups.are_labelled.Given as goal

abbrev pub invariant-loop-quad : goal.invariant-loop-quad
invariant-loop-quad l = All (IsKnown l.terms) (take l.quad-index l.quads) × All (IsLabelled l.terms l.labels) (take l.quad-index l.quads)
