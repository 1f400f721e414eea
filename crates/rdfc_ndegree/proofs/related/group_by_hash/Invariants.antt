use Rattle.std.proofs.Common.{◌≡◌, map, flat_map, take}
use Rattle.rdfc_ndegree.specs.Groups.{groups_by_hash}
use Rattle.rdfc_ndegree.specs.Internal.Grouping.{node_hashes}
use Rattle.rdfc_ndegree.specs.Table.{group_in}
use Rattle.rdfc_ndegree.proofs.related.group_by_hash.Given as goal

abbrev pub invariant-loop-next : goal.invariant-loop-next
invariant-loop-next l = map group_in l.groups.items ≡ groups_by_hash (flat_map node_hashes (take l.next-index l.next-items))
