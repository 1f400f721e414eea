use Rattle.std.proofs.Common.{◌≡◌, take}
use Rattle.std.specs.List.{flat_map}
use Rattle.rdfc_first.specs.Internal.Mentions.{mention_lines}
use Rattle.rdfc_first.proofs.mentions.mention_lines.Given as goal

abbrev pub invariant-loop-quad : goal.invariant-loop-quad
invariant-loop-quad l = l.lines.items ≡ flat_map (mention_lines l.terms) (take l.quad-index l.quads)
