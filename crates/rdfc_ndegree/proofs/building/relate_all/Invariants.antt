use Rattle.std.proofs.Common.{◌≡◌, drop, map}
use Rattle.rdfc_ndegree.specs.Internal.Building.{parts_by_number, relate_all}
use Rattle.rdfc_ndegree.proofs.building.relate_all.Given as goal

abbrev pub invariant-loop-quad : goal.invariant-loop-quad
invariant-loop-quad l = relate_all l.initial.rows.items (map (parts_by_number l.numbers) l.quads) ≡ relate_all l.rows.items (map (parts_by_number l.numbers) (drop l.quad-index l.quads))
