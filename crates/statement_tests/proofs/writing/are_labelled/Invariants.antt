use Rattle.std.proofs.Common.{take}
use Rattle.std.specs.Prelude.{All}
use Rattle.nquads.specs.Stored.{IsLabelled}
use Rattle.statement_tests.proofs.writing.are_labelled.Given as goal

abbrev pub invariant-loop-quad : goal.invariant-loop-quad
invariant-loop-quad l = All (IsLabelled l.terms l.labels) (take l.quad-index l.quads)
