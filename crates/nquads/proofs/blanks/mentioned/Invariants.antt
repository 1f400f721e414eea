use Rattle.std.proofs.Common.{◌≡◌, take}
use Rattle.nquads.specs.Internal.Storing.{blank_ids}
use Rattle.nquads.proofs.blanks.mentioned.Given as goal

-- the numbers of the statements so far
abbrev pub invariant-loop-quad : goal.invariant-loop-quad
invariant-loop-quad l = l.ids.items ≡ blank_ids l.terms (take l.quad-index l.quads)
