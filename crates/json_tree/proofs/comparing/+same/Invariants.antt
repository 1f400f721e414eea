use Rattle.std.proofs.Common.{◌≡◌, length, take}
use Rattle.json_tree.proofs.comparing.+same.Given as goal

-- the lists are as long, and what was compared is the same
abbrev pub invariant-same_items-loop-i : goal.invariant-same_items-loop-i
invariant-same_items-loop-i l = (length l.a ≡ length l.b) × (take l.i l.a ≡ take l.i l.b)

abbrev pub invariant-same_members-loop-i : goal.invariant-same_members-loop-i
invariant-same_members-loop-i l = (length l.a ≡ length l.b) × (take l.i l.a ≡ take l.i l.b)
