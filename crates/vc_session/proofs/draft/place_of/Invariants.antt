use Rattle.std.proofs.Common.{◌≡◌, ◌+◌, drop}
use Rattle.vc_session.specs.Internal.Drafts.{place_of}
use Rattle.vc_session.proofs.draft.place_of.Given as goal

-- each member that was passed comes before the name
abbrev pub invariant-loop-at : goal.invariant-loop-at
invariant-loop-at l = place_of l.key l.members ≡ l.at + place_of l.key (drop l.at l.members)
