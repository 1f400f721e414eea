use Rattle.std.proofs.Common.{◌≡◌, drop}
use Rattle.pointer_select.specs.Internal.Reading.{first_bad_escape}
use Rattle.pointer_select.proofs.reading.first_bad_escape.Given as goal

-- no escape before here is bad
abbrev pub invariant-loop-at : goal.invariant-loop-at
invariant-loop-at l = first_bad_escape 0 l.bytes ≡ first_bad_escape l.at (drop l.at l.bytes)
