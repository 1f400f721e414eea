-- The outcomes of building statements.
use Rattle.std.specs.Prelude.{◌≡◌, List, Vec, Option, Some, None, Result, Ok, Err}
use Rattle.std.specs.declared.alloc.Global.{Global}
use Rattle.ld_rdf.specs.declared.fault.FlatFault.{FlatFault}
use Rattle.ld_rdf.specs.declared.fault.FlatFault.TheVariants.{NotBuilt, Memory}

-- the value that there is, or `NotBuilt` where there is none; out of memory is free
abbrev pub Builds : {A : Type 0} → Option A → Result A FlatFault → Type 0
Builds o (Ok a) = o ≡ Some a
Builds o (Err NotBuilt) = o ≡ None
Builds o (Err Memory) = Unit {0}

-- the same of a vector, seen as its elements
abbrev pub BuildsItems : {A : Type 0} → Option (List A) → Result (Vec A Global) FlatFault → Type 0
BuildsItems o (Ok v) = o ≡ Some v.items
BuildsItems o (Err NotBuilt) = o ≡ None
BuildsItems o (Err Memory) = Unit {0}
