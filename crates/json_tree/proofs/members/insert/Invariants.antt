use Rattle.std.proofs.Common.{◌≡◌, ◌≤◌, ◌++◌, ◌∷◌, length, take, drop, reverse}
use Rattle.json_tree.proofs.members.insert.Given as goal

-- what is left, and what went out from the end
abbrev pub invariant-loop-all : goal.invariant-loop-all
invariant-loop-all l = record {
  parts : l.fn.members ≡ l.all ++ reverse l.later;
  enough : l.at ≤ length l.all;
}

abbrev pub decreases-loop-all : goal.decreases-loop-all
decreases-loop-all l = length l.all

-- what is in, and what is to go back
abbrev pub invariant-loop-next : goal.invariant-loop-next
invariant-loop-next l = l.all ++ reverse l.later ≡ take l.at l.fn.members ++ l.fn.member ∷ drop l.at l.fn.members

abbrev pub decreases-loop-next : goal.decreases-loop-next
decreases-loop-next l = length l.later
