use Rattle.std.proofs.Common.{◌≡◌, map, take}
use Rattle.cbor_core.specs.declared.item.Item.TheVariants as v
use Rattle.proof_cbor.proofs.items.indexes_item.Given as goal

abbrev pub invariant-loop-index : goal.invariant-loop-index
invariant-loop-index l = l.items ≡ map v.Whole (take l.index-index l.indexes)
