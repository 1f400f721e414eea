use Rattle.std.proofs.Common.{◌≡◌, ◌++◌}
use Rattle.ld_termdef.proofs.definitions.shared_entries.Given as goal

abbrev pub invariant-loop-entry : goal.invariant-loop-entry
invariant-loop-entry l = l.made ≡ l.yielded
