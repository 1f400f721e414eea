use Rattle.std.proofs.Common.{◌≡◌, ◌++◌, drop}
use Rattle.std.specs.List.{filter_map}
use Rattle.rdfc_ndegree.specs.Internal.Building.{place_among}
use Rattle.rdfc_ndegree.proofs.blank_nodes.places_of.Given as goal

abbrev pub invariant-loop-node : goal.invariant-loop-node
invariant-loop-node l = filter_map (place_among l.numbers) l.nodes ≡ l.places ++ filter_map (place_among l.numbers) (drop l.node-index l.nodes)
