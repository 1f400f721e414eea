use Rattle.std.proofs.Common.{◌≡◌, ◌++◌, take}
use Rattle.rdfc_ndegree.proofs.temporary.Temporary.append_all.Given as goal

abbrev pub invariant-loop-node : goal.invariant-loop-node
invariant-loop-node l = l.self ≡ l.fn.self ++ take l.node-index l.nodes
