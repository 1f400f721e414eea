use Rattle.std.proofs.Common.{◌≡◌, ◌<◌, ◌^◌, drop}
use Rattle.nquads.specs.Escapes.{hex_number}
use Rattle.nquads.proofs.meaning.number_of.Given as goal

-- the digits that are left give the number, which has four bits for each that was read
abbrev pub invariant-loop-digit : goal.invariant-loop-digit
invariant-loop-digit l =
    (hex_number 0 l.digits ≡ hex_number l.number (drop l.digit-index l.digits)) × (l.number < 16 ^ l.digit-index)
