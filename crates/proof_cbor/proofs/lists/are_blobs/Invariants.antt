use Rattle.std.proofs.Common.{◌≡◌, drop}
use Rattle.std.specs.Prelude.{is_some}
use Rattle.proof_cbor.specs.Internal.Reading.{each_is, blob_kind}
use Rattle.proof_cbor.proofs.lists.are_blobs.Given as goal

abbrev pub invariant-loop-item : goal.invariant-loop-item
invariant-loop-item l = is_some (each_is blob_kind (drop l.item-index l.items)) ≡ is_some (each_is blob_kind l.items)
