use Rattle.std.proofs.Common.{◌≡◌, ◌++◌, drop}
use Rattle.std.specs.Option.{option_map}
use Rattle.proof_cbor.specs.Internal.Reading.{each_is, whole_kind}
use Rattle.proof_cbor.proofs.lists.wholes.Given as goal

abbrev pub invariant-loop-item : goal.invariant-loop-item
invariant-loop-item l = option_map (λ rest. l.wholes ++ rest) (each_is whole_kind (drop l.item-index l.items)) ≡ each_is whole_kind l.items
