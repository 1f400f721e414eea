use Rattle.rdfc_ndegree.specs.Internal.Grouping.{IsAlikeUntil}
use Rattle.std.proofs.Common.{◌-◌, length}
use Rattle.rdfc_ndegree.proofs.table.alike_until.Given as goal

abbrev pub invariant-loop-end : goal.invariant-loop-end
invariant-loop-end l = IsAlikeUntil l.related l.place l.first l.end

abbrev pub decreases-loop-end : goal.decreases-loop-end
decreases-loop-end l = length l.related - l.end
