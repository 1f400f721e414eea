use Rattle.std.proofs.Common.{◌≡◌, drop}
use Rattle.std.specs.Prelude.{is_some}
use Rattle.proof_cbor.specs.Internal.Reading.{each_is, entry_kind}
use Rattle.proof_cbor.proofs.lists.are_entries.Given as goal

abbrev pub invariant-loop-pair : goal.invariant-loop-pair
invariant-loop-pair l = is_some (each_is entry_kind (drop l.pair-index l.pairs)) ≡ is_some (each_is entry_kind l.pairs)
