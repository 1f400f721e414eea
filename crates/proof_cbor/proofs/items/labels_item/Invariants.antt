use Rattle.std.proofs.Common.{◌≡◌, map, take}
use Rattle.proof_cbor.specs.Values.{pair_of}
use Rattle.proof_cbor.proofs.items.labels_item.Given as goal

abbrev pub invariant-loop-label : goal.invariant-loop-label
invariant-loop-label l = l.pairs ≡ map pair_of (take l.label-index l.labels)
