use Rattle.std.proofs.Common.{◌≡◌, drop}
use Rattle.rdfc_ndegree.specs.Internal.Issuing.{issue_numbers}
use Rattle.rdfc_canon.proofs.naming.issue_nodes.Given as goal

abbrev pub invariant-loop-node : goal.invariant-loop-node
invariant-loop-node l = issue_numbers l.initial.canonical l.nodes ≡ issue_numbers l.canonical (drop l.node-index l.nodes)
