use Rattle.std.proofs.Common.{◌≡◌, ◌∷◌, drop}
use Rattle.base_types.specs.Order.{rise}
use Rattle.proof_cbor.proofs.parts.rises.Given as goal

abbrev pub invariant-loop-number : goal.invariant-loop-number
invariant-loop-number l = rise (l.last ∷ drop l.number-index l.rest) ≡ rise (l.initial.last ∷ l.rest)
