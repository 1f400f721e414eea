use Rattle.std.proofs.Common.{◌≡◌, map, flat_map}
use Rattle.rdfc_ndegree.specs.Internal.Grouping.{node_hashes, row_hash}
use Rattle.rdfc_ndegree.specs.Table.{numbers_below}
use Rattle.rdfc_ndegree.proofs.firsts.hashed_rows.Given as goal

abbrev pub invariant-loop-node : goal.invariant-loop-node
invariant-loop-node l = flat_map node_hashes l.hashed.items ≡ map (row_hash l.table) (numbers_below l.node)
