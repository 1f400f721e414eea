use Rattle.std.proofs.Common.{◌≡◌, length, take, map}
use Rattle.std.specs.Prelude.{bit_xor}
use Rattle.digest_mac.proofs.mac.combined_with.Given as goal

abbrev pub invariant-loop-place : goal.invariant-loop-place
invariant-loop-place l =
    (length l.combined ≡ 128) × (take l.place l.combined ≡ map (bit_xor l.pad) (take l.place l.block))
