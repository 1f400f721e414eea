use Rattle.std.proofs.Common.{◌≡◌, take, map}
use Rattle.nquads.specs.Internal.Parts.{number_line}
use Rattle.nquads.proofs.written.lines_by_numbers.Given as goal

abbrev pub invariant-loop-quad : goal.invariant-loop-quad
invariant-loop-quad l = l.lines.items ≡ map (number_line l.terms l.labels) (take l.quad-index l.quads)
