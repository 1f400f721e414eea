use Rattle.std.proofs.Common.{take}
use Rattle.std.specs.Prelude.{All}
use Rattle.nquads.specs.Stored.{IsKnown}
use Rattle.statement_tests.proofs.writing.are_known.Given as goal

abbrev pub invariant-loop-quad : goal.invariant-loop-quad
invariant-loop-quad l = All (IsKnown l.terms) (take l.quad-index l.quads)
