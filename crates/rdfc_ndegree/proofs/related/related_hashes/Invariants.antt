use Rattle.std.proofs.Common.{◌≡◌, ◌-◌, map, flat_map, length, take}
use Rattle.std.specs.Prelude.{slice_get}
use Rattle.rdfc_ndegree.specs.Groups.{with_related_hash}
use Rattle.rdfc_ndegree.specs.Table.{related_in_row, table_nodes}
use Rattle.rdfc_ndegree.specs.Internal.Grouping.{node_hashes}
use Rattle.rdfc_ndegree.proofs.related.related_hashes.Given as goal

abbrev pub invariant-loop-related : goal.invariant-loop-related
invariant-loop-related l = flat_map node_hashes l.hashed.items ≡ map (with_related_hash (table_nodes l.hash l.table) l.canonical l.issuer) (take l.place (related_in_row (slice_get l.table l.node)))

abbrev pub decreases-loop-related : goal.decreases-loop-related
decreases-loop-related l = length (related_in_row (slice_get l.table l.node)) - l.place
