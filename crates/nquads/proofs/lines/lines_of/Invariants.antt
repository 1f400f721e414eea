use Rattle.std.proofs.Common.{◌≡◌, take, map}
use Rattle.nquads.specs.Texts.{label_text}
use Rattle.nquads.specs.Internal.TextLines.{text_line}
use Rattle.nquads.proofs.lines.lines_of.Given as goal

abbrev pub invariant-loop-quad : goal.invariant-loop-quad
invariant-loop-quad l = l.lines.items ≡ map (text_line (label_text l.labels)) (take l.quad-index l.quads)
