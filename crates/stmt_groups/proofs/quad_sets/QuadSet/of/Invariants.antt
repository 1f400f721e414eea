use Rattle.std.proofs.Common.{take}
use Rattle.base_types.specs.Sets.{SameElements}
use Rattle.stmt_groups.proofs.quad_sets.QuadSet.of.Given as goal

abbrev pub invariant-loop-quad : goal.invariant-loop-quad
invariant-loop-quad l = SameElements l.set (take l.quad-index l.quads)
