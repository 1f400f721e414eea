use Rattle.std.proofs.Common.{◌≡◌, false, take}
use Rattle.std.specs.List.{list_any}
use Rattle.ld_termdef.specs.Internal.Merging.{shows_protected}
use Rattle.ld_termdef.proofs.definitions.protects_below.Given as goal

abbrev pub invariant-loop-entry : goal.invariant-loop-entry
invariant-loop-entry l = list_any (shows_protected l.over) (take l.entry-index l.under) ≡ false
