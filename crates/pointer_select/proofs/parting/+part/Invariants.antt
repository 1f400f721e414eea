use Rattle.std.proofs.Common.{◌≡◌, ◌++◌, drop}
use Rattle.pointer_select.specs.Internal.Parts.{groups_now, item_part, member_part, parts_of}
use Rattle.pointer_select.proofs.parting.+part.Given as goal

-- what is made, and what the rest will give
abbrev pub invariant-part_of_items-loop-k : goal.invariant-part_of_items-loop-k
invariant-part_of_items-loop-k l = parts_of item_part (groups_now l.groups) l.items ≡ l.part ++ parts_of item_part (drop l.k (groups_now l.groups)) (drop l.k l.items)

abbrev pub invariant-part_of_members-loop-k : goal.invariant-part_of_members-loop-k
invariant-part_of_members-loop-k l = parts_of member_part (groups_now l.groups) l.members ≡ l.part ++ parts_of member_part (drop l.k (groups_now l.groups)) (drop l.k l.members)
