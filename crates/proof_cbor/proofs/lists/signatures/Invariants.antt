use Rattle.std.proofs.Common.{◌≡◌, drop, [], length}
use Rattle.proof_cbor.specs.Internal.Reading.{ones_from, blob_kind}
use Rattle.proof_cbor.proofs.lists.signatures.Given as goal

abbrev pub invariant-loop-item : goal.invariant-loop-item
invariant-loop-item l = ones_from blob_kind length l.part 64 l.signatures (drop l.item-index l.items) ≡ ones_from blob_kind length l.part 64 [] l.items
