use Rattle.std.proofs.Common.{◌≡◌, map, take, true}
use Rattle.cbor_core.specs.declared.item.Item.TheVariants as v
use Rattle.proof_cbor.specs.Values.{all_sized}
use Rattle.proof_cbor.proofs.items.signatures_item.Given as goal

abbrev pub invariant-loop-signature : goal.invariant-loop-signature
invariant-loop-signature l = (l.items ≡ map v.Blob (take l.signature-index l.signatures)) × (all_sized 64 (take l.signature-index l.signatures) ≡ true)
