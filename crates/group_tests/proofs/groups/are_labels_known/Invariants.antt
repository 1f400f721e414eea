use Rattle.std.proofs.Common.{take}
use Rattle.nquads.specs.Stored.{AreLabelsKnown}
use Rattle.group_tests.proofs.groups.are_labels_known.Given as goal

abbrev pub invariant-loop-place : goal.invariant-loop-place
invariant-loop-place l = AreLabelsKnown l.terms (take l.place l.labels)
