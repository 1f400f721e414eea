use Rattle.std.proofs.Common.{◌≡◌, ◌++◌}
use Rattle.cbor_core.specs.Grammar.{pairs_of}
use Rattle.cbor_core.proofs.decoding.pairs.Given as goal

-- the pairs so far, and those of the entries that are left
abbrev pub invariant-loop-key : goal.invariant-loop-key
invariant-loop-key l = l.pairs ++ pairs_of l.key-iterator ≡ pairs_of l.fn.entries.entries
