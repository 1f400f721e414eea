use Rattle.std.proofs.Common.{◌≡◌, drop}
use Rattle.json_tree.specs.Internal.Misplaced.{first_in_items, first_in_members}
use Rattle.json_tree.proofs.misplaced.+misplaced.Given as goal

-- nothing was found so far, so the first is in the rest
abbrev pub invariant-find_in_items-loop-item : goal.invariant-find_in_items-loop-item
invariant-find_in_items-loop-item l = first_in_items l.items ≡ first_in_items (drop l.item-index l.items)

abbrev pub invariant-find_in_members-loop-member : goal.invariant-find_in_members-loop-member
invariant-find_in_members-loop-member l = first_in_members l.members ≡ first_in_members (drop l.member-index l.members)
