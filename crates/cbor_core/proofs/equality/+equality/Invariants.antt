use Rattle.std.proofs.Common.{◌≡◌, length, take}
use Rattle.cbor_core.proofs.equality.+equality.Given as goal

abbrev pub invariant-are_equal_lists-loop-i : goal.invariant-are_equal_lists-loop-i
invariant-are_equal_lists-loop-i l = (length l.a ≡ length l.b) × (take l.i l.a ≡ take l.i l.b)

abbrev pub invariant-are_equal_pairs-loop-i : goal.invariant-are_equal_pairs-loop-i
invariant-are_equal_pairs-loop-i l = (length l.a ≡ length l.b) × (take l.i l.a ≡ take l.i l.b)
