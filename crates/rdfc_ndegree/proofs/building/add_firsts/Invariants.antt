use Rattle.std.proofs.Common.{◌≡◌, drop}
use Rattle.rdfc_ndegree.specs.Internal.Building.{numbers_of, with_rows}
use Rattle.rdfc_ndegree.proofs.building.add_firsts.Given as goal

abbrev pub invariant-loop-first : goal.invariant-loop-first
invariant-loop-first l = (l.numbers ≡ numbers_of l.rows.items) × (with_rows l.initial.rows.items l.firsts ≡ with_rows l.rows.items (drop l.first-index l.firsts))
