use Rattle.std.proofs.Common.{take}
use Rattle.stmt_groups.specs.Parts.{IsMissing}
use Rattle.stmt_groups.specs.Internal.Marking.{Gains}
use Rattle.stmt_groups.proofs.strays.push_all_missing.Given as goal

abbrev pub invariant-loop-quad : goal.invariant-loop-quad
invariant-loop-quad l = Gains l.initial.strays.items l.strays.items (IsMissing (take l.quad-index l.part) l.set)
