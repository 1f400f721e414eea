use Rattle.std.proofs.Common.{◌≡◌, ◌++◌, replicate}
use Rattle.rdfc_ndegree.proofs.related.push_times.Given as goal

abbrev pub invariant-loop-time : goal.invariant-loop-time
invariant-loop-time l = l.members ≡ l.initial.members ++ replicate l._time l.node
