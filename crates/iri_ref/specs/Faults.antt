-- Why `resolve` has no answer.
use Rattle.std.specs.Prelude.{ℕ, List, ◌≡◌, Some, None}
use Rattle.iri_ref.specs.Characters.{first_forbidden}
use Rattle.iri_ref.specs.declared.fault.IriFault.{IriFault}
use Rattle.iri_ref.specs.declared.fault.IriFault.TheVariants.{BadIri, Memory}

-- A forbidden character stands in the reference, the first at this byte. Out of memory: none does.
abbrev pub IsCause : List ℕ → IriFault → Type 0
IsCause reference (BadIri at) = first_forbidden reference ≡ Some at
IsCause reference Memory = first_forbidden reference ≡ None
