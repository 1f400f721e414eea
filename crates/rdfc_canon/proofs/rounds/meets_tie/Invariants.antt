use Rattle.std.proofs.Common.{◌≡◌, length}
use Rattle.rdfc_canon.specs.Internal.Numbering.{neighbours_tie}
use Rattle.rdfc_canon.proofs.rounds.meets_tie.Given as goal

abbrev pub invariant-loop-path : goal.invariant-loop-path
invariant-loop-path l = neighbours_tie l.paths ≡ neighbours_tie l.rest

abbrev pub decreases-loop-path : goal.decreases-loop-path
decreases-loop-path l = length l.rest
