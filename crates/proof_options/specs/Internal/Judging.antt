-- What the steps of a look at options say: of one field, and of all.
use Rattle.std.specs.Prelude.{◌≡◌, codes, Option, Some, Result, Ok, Err}
use Rattle.json_tree.specs.declared.tree.Tree.{Tree}
use Rattle.proof_options.specs.declared.fault.Field.{Field}
use Rattle.proof_options.specs.declared.fault.OptionFault.{OptionFault}
use Rattle.proof_options.specs.declared.fault.OptionFault.TheVariants.{Bad, Memory}
use Rattle.proof_options.specs.declared.fault.Suite.{Suite}
use Rattle.proof_options.specs.declared.fields.Standing.{Standing}
use Rattle.proof_options.specs.declared.fields.Standing.TheVariants.{Alone, Secured}
use Rattle.proof_options.specs.declared.fields.Seen.{Seen}
use Rattle.proof_options.specs.Shape.{named, IsAbsent, IsText, IsTheText, IsRight, HasShape, IsFirstBad}
use Rattle.proof_options.specs.Parts.{IsExpiry}

-- the field is bad; out of memory is free
abbrev pub IsFault : Type 0 → Field → OptionFault → Type 0
IsFault right field (Bad f) = (f ≡ field) × (right → ⊥)
IsFault right field Memory = Unit {0}

-- The field is right, or it is bad.
abbrev pub Judges : {A : Type 0} → Type 0 → Field → Result A OptionFault → Type 0
Judges right field (Ok a) = right
Judges right field (Err fault) = IsFault right field fault

-- what must stand at `proofValue`
abbrev pub value_rule : Standing → Option Tree → Type 0
value_rule Alone = IsAbsent
value_rule Secured = IsText

-- what each field of options must be, where they stand
abbrev pub right_in : Suite → Standing → Tree → Field → Type 0
right_in suite standing t = IsRight suite (value_rule standing) (Some t)

-- the first bad field, or out of memory
abbrev pub Refuses : (Field → Type 0) → OptionFault → Type 0
Refuses right (Bad field) = IsFirstBad right field
Refuses right Memory = Unit {0}

-- all fields are right, and these were seen
pub record HasSeen (suite : Suite) (standing : Standing) (t : Tree) (seen : Seen) : Type 0 where
  pub shape : HasShape suite (value_rule standing) (Some t)
  pub method : IsTheText seen.method (named (codes "verificationMethod") (Some t))
  pub expires : IsExpiry (named (codes "expires") (Some t)) seen.expires

-- The outcomes of a look at all fields.
abbrev pub Looks : Suite → Standing → Tree → Result Seen OptionFault → Type 0
Looks suite standing t (Ok seen) = HasSeen suite standing t seen
Looks suite standing t (Err fault) = Refuses (right_in suite standing t) fault
