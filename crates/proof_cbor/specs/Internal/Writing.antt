-- Which derived value may be written.
use Rattle.std.specs.Prelude.{◌≡◌, true}
use Rattle.cbor_core.specs.Writing.{fits}
use Rattle.proof_cbor.specs.declared.value.DerivedValue.{DerivedValue}
use Rattle.proof_cbor.specs.Values.{derived_item, DerivedSizes}

-- the value is one of the types of Rust: its byte strings have their lengths, and all else fits
abbrev pub CanWriteDerived : DerivedValue → Type 0
CanWriteDerived value = DerivedSizes value × (fits (derived_item value) ≡ true)
