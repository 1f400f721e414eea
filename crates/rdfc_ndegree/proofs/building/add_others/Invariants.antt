use Rattle.std.proofs.Common.{◌≡◌, drop, map}
use Rattle.rdfc_ndegree.specs.Internal.Building.{numbers_of, with_rows, unused_node}
use Rattle.rdfc_ndegree.proofs.building.add_others.Given as goal

abbrev pub invariant-loop-other : goal.invariant-loop-other
invariant-loop-other l = (l.numbers ≡ numbers_of l.rows.items) × (with_rows l.initial.rows.items (map (unused_node l.fn.hash) l.others) ≡ with_rows l.rows.items (map (unused_node l.fn.hash) (drop l.other-index l.others)))
