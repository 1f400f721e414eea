-- The outcomes of checking options and of splitting a secured document. Each has its own case, and
-- out of memory is free.
use Rattle.std.specs.Prelude.{Some, Result, Ok, Err}
use Rattle.json_tree.specs.declared.tree.Tree.{Tree}
use Rattle.proof_options.specs.declared.fault.OptionFault.{OptionFault}
use Rattle.proof_options.specs.declared.fault.OptionFault.TheVariants.{Bad, Memory}
use Rattle.proof_options.specs.declared.fault.Suite.{Suite}
use Rattle.proof_options.specs.declared.proofs.Options.{Options}
use Rattle.proof_options.specs.declared.proofs.SplitProof.{SplitProof}
use Rattle.proof_options.specs.Shape.{IsAbsent, IsText, IsRight, HasShape, IsFirstBad}
use Rattle.proof_options.specs.Parts.{AreOptions, IsSplit, proof_of}

-- Options by themselves, which have no `proofValue`.
abbrev pub Checks : Suite → Tree → Result Options OptionFault → Type 0
Checks suite tree (Ok options) = HasShape suite IsAbsent (Some tree) × AreOptions tree options
Checks suite tree (Err (Bad field)) = IsFirstBad (IsRight suite IsAbsent (Some tree)) field
Checks suite tree (Err Memory) = Unit {0}

-- A secured document, whose proof has a text as its `proofValue`.
abbrev pub Splits : Suite → Tree → Result SplitProof OptionFault → Type 0
Splits suite document (Ok split) = IsSplit suite document split
Splits suite document (Err (Bad field)) =
    IsFirstBad (IsRight suite IsText (proof_of document)) field
Splits suite document (Err Memory) = Unit {0}
