use Rattle.std.proofs.Common.{◌≡◌, ◌++◌, take}
use Rattle.ld_termdef.proofs.definitions.push_all.Given as goal

abbrev pub invariant-loop-entry : goal.invariant-loop-entry
invariant-loop-entry l = l.made ≡ l.initial.made ++ take l.entry-index l.entries
