use Rattle.std.proofs.Common.{◌≡◌, drop}
use Rattle.ld_rdf.specs.Plain.{has_noncharacter}
use Rattle.ld_rdf.proofs.plain.has_noncharacter.Given as goal

abbrev pub invariant-loop-at : goal.invariant-loop-at
invariant-loop-at l = has_noncharacter l.bytes ≡ has_noncharacter (drop l.at l.bytes)
