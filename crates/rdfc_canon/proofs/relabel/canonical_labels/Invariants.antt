use Rattle.std.proofs.Common.{◌≡◌, drop, []}
use Rattle.rdfc_canon.specs.Internal.Labelling.{all_labels}
use Rattle.rdfc_canon.proofs.relabel.canonical_labels.Given as goal

abbrev pub invariant-loop-node : goal.invariant-loop-node
invariant-loop-node l = all_labels l.firsts [] l.order ≡ all_labels l.firsts l.labels (drop l.node-index l.order)
