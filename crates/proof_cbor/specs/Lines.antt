-- The lines of text that say each fault and name each part.
use Rattle.std.specs.Prelude.{ℕ, List, ◌++◌, codes}
use Rattle.cbor_core.specs.Lines.{fault_line}
use Rattle.proof_cbor.specs.declared.fault.Part.{Part}
use Rattle.proof_cbor.specs.declared.fault.Part.TheVariants as part
use Rattle.proof_cbor.specs.declared.fault.ValueFault.{ValueFault}
use Rattle.proof_cbor.specs.declared.fault.ValueFault.TheVariants as fault

-- the name of a part
abbrev pub part_name : Part → List ℕ
part_name part.Array = codes "list of five parts"
part_name part.BaseSignature = codes "base signature"
part_name part.PublicKey = codes "public key"
part_name part.HmacKey = codes "HMAC key"
part_name part.Signatures = codes "list of signatures"
part_name part.Pointers = codes "list of mandatory pointers"
part_name part.LabelMap = codes "label map"
part_name part.Indexes = codes "list of mandatory indexes"

-- a fault in plain words, with its part or place where it has one
abbrev pub value_line : ValueFault → List ℕ
value_line fault.NotMultibase = codes "the text is not `u` and unpadded base64url"
value_line fault.Header = codes "the three bytes of the kind do not come first"
value_line (fault.Cbor e) = codes "behind the header, " ++ fault_line e
value_line (fault.Shape at) =
    codes "the " ++ (part_name at ++ codes ", or an item in it, has the wrong kind")
value_line (fault.Length at) =
    codes "the " ++ (part_name at ++ codes ", or an item in it, has the wrong length")
value_line fault.Indexes = codes "the mandatory indexes do not rise"
value_line fault.Memory = codes "out of memory"
