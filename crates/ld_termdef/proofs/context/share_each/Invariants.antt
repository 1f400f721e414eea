use Rattle.std.proofs.Common.{◌≡◌, take}
use Rattle.ld_termdef.proofs.context.share_each.Given as goal

abbrev pub invariant-loop-context : goal.invariant-loop-context
invariant-loop-context l = l.same ≡ take l.context-index l.contexts
