use Rattle.std.proofs.Common.{◌≡◌, drop, []}
use Rattle.digest_mac.specs.Digests.{digest_size}
use Rattle.proof_cbor.specs.Internal.Reading.{ones_from, entry_kind, digest_length}
use Rattle.proof_cbor.proofs.lists.entries.Given as goal

abbrev pub invariant-loop-pair : goal.invariant-loop-pair
invariant-loop-pair l = ones_from entry_kind digest_length l.part (digest_size l.hash) l.entries (drop l.pair-index l.pairs) ≡ ones_from entry_kind digest_length l.part (digest_size l.hash) [] l.pairs
