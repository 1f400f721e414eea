-- The line of text that says each fault.
use Rattle.std.specs.Prelude.{ℕ, List, ◌++◌, codes}
use Rattle.std.specs.Fmt.{decimal}
use Rattle.cbor_core.specs.declared.fault.CborFault.{CborFault}
use Rattle.cbor_core.specs.declared.fault.CborFault.TheVariants.{Truncated, NotShortest, Forbidden, RepeatedKey, Trailing, TooMany, Memory}

-- a fault in plain words, with its place where it has one
abbrev pub fault_line : CborFault → List ℕ
fault_line (Truncated at) =
    codes "the input ends at byte " ++ (decimal at ++ codes ", inside an item")
fault_line (NotShortest at) =
    codes "the head at byte " ++ (decimal at ++ codes " has a shorter spelling")
fault_line (Forbidden at) =
    codes "what begins at byte " ++ (decimal at ++ codes " may not stand there")
fault_line (RepeatedKey at) =
    codes "the key at byte " ++ (decimal at ++ codes " stands in its map before")
fault_line (Trailing at) = codes "bytes follow the item, from byte " ++ (decimal at ++ codes " on")
fault_line TooMany = codes "more than 100,000 items begin"
fault_line Memory = codes "out of memory"
