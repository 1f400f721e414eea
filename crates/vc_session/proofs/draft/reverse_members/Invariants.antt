use Rattle.std.proofs.Common.{◌≡◌, ◌++◌, length, reverse}
use Rattle.vc_session.proofs.draft.reverse_members.Given as goal

-- what was turned, followed by the rest turned around
abbrev pub invariant-loop-member : goal.invariant-loop-member
invariant-loop-member l = reverse l.initial.rest ≡ l.turned.items ++ reverse l.rest

abbrev pub decreases-loop-member : goal.decreases-loop-member
decreases-loop-member l = length l.rest
