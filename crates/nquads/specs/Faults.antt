-- The line of text that says each fault.
use Rattle.std.specs.Prelude.{ℕ, List, ◌++◌, codes}
use Rattle.std.specs.Fmt.{decimal}
use Rattle.nquads.specs.declared.fault.NqFault.{NqFault}
use Rattle.nquads.specs.declared.fault.NqFault.TheVariants.{At, TooManyStatements, TooManyBlanks, Memory}

-- a fault in plain words, with its number where it has one
abbrev pub fault_line : NqFault → List ℕ
fault_line (At at) =
    codes "what begins at byte " ++ (decimal at ++ codes " is no line of N-Quads")
fault_line (TooManyStatements most) =
    codes "the text says more than " ++ (decimal most ++ codes " statements")
fault_line (TooManyBlanks most) =
    codes "the text mentions more than " ++ (decimal most ++ codes " blank nodes")
fault_line Memory = codes "out of memory"
