use Rattle.std.proofs.Common.{map, take}
use Rattle.stmt_groups.specs.Internal.Marking.{IsLeastOf}
use Rattle.stmt_groups.specs.Internal.Shown.{shown_text}
use Rattle.stmt_groups.proofs.strays.least_text.Given as goal

abbrev pub invariant-loop-quad : goal.invariant-loop-quad
invariant-loop-quad l = IsLeastOf (map (shown_text l.terms) (take l.quad-index l.quads)) l.least
