use Rattle.std.proofs.Common.{◌≡◌, ◌≤◌, ◌-◌, length}
use Rattle.pointer_select.specs.Internal.Parts.{empties}
use Rattle.pointer_select.proofs.parting.empty_groups.Given as goal

-- all are empty, and there are no more than wanted
abbrev pub invariant-loop-alloc : goal.invariant-loop-alloc
invariant-loop-alloc l = record {
  empty : l.groups.items ≡ empties (length l.groups.items);
  within : length l.groups.items ≤ l.count;
}

abbrev pub decreases-loop-alloc : goal.decreases-loop-alloc
decreases-loop-alloc l = l.count - length l.groups.items
