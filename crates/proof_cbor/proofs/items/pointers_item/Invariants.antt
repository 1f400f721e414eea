use Rattle.std.proofs.Common.{◌≡◌, map, take}
use Rattle.cbor_core.specs.declared.item.Item.TheVariants as v
use Rattle.proof_cbor.proofs.items.pointers_item.Given as goal

abbrev pub invariant-loop-pointer : goal.invariant-loop-pointer
invariant-loop-pointer l = l.items ≡ map v.Text (take l.pointer-index l.pointers)
