use Rattle.std.proofs.Common.{◌≡◌, length}
use denote.Text.{Utf8}
use denote.Shadow.{shadow}
use Rattle.nquads.specs.Internal.Parsing.{past_gaps}
use Rattle.nquads.proofs.parts.past_gaps.Given as goal

-- what is left of the spaces and tabs stands in front of the rest
abbrev pub invariant-loop-after : goal.invariant-loop-after
invariant-loop-after l = shadow (Utf8 l.rest) × (past_gaps l.text ≡ past_gaps l.rest)

abbrev pub decreases-loop-after : goal.decreases-loop-after
decreases-loop-after l = length l.rest
