-- The replies that are written as one line of JSON, with LF: a tree for each, its members in byte
-- order.
use Rattle.std.specs.Prelude.{◌+◌, ℕ, pos, List, [], ◌∷◌, ◌++◌, true, false, codes}
use Rattle.hex.specs.Hex.{encode_lower}
use Rattle.serde_json.specs.Written.{compact_text}
use Rattle.json_tree.specs.declared.tree.Tree.{Tree}
use Rattle.json_tree.specs.declared.tree.Tree.TheVariants as v
use Rattle.json_tree.specs.declared.tree.Item.{Item}
use Rattle.json_tree.specs.declared.tree.Member.{Member}
use Rattle.json_tree.specs.Trees.{element, new_member}
use Rattle.json_tree.specs.Prints.{data_of}
use Rattle.key_device.specs.declared.keys.KeyName.{KeyName}
use Rattle.cbor_core.specs.declared.fault.CborFault.{CborFault}
use Rattle.cbor_core.specs.declared.fault.CborFault.TheVariants as cbor
use Rattle.proof_cbor.specs.declared.fault.Part.{Part}
use Rattle.proof_cbor.specs.declared.fault.Part.TheVariants as part
use Rattle.proof_cbor.specs.declared.fault.ValueFault.{ValueFault}
use Rattle.proof_cbor.specs.declared.fault.ValueFault.TheVariants as value
use Rattle.stmt_groups.specs.declared.types.Cause.{Cause}
use Rattle.stmt_groups.specs.declared.types.Cause.TheVariants as cause

-- a tree as compact JSON, and LF
abbrev pub line_of : Tree → List ℕ
line_of t = compact_text (data_of t) ++ codes "\n"

-- a member whose value is a text, a whole number or a key as hexadecimal digits
abbrev pub text_field : List ℕ → List ℕ → Member Tree
text_field name text = new_member name (v.Text text)

abbrev pub number_field : List ℕ → ℕ → Member Tree
number_field name n = new_member name (v.Whole (pos n))

abbrev pub key_field : List ℕ → KeyName → Member Tree
key_field name key = text_field name (encode_lower key.bytes)

-- the member `name` of a refusal or of a cause
abbrev pub name_field : List ℕ → Member Tree
name_field name = text_field (codes "name") name

-- a list of whole numbers
abbrev pub whole_items : ℕ → List ℕ → List (Item Tree)
whole_items from [] = []
whole_items from (n ∷ ns) = element from (v.Whole (pos n)) ∷ whole_items (from + 1) ns

-- ---- refusals

-- a refusal with these fields
abbrev pub refusal_tree : List (Member Tree) → Tree
refusal_tree fields = v.Object (new_member (codes "refused") (v.Object fields) ∷ [])

-- a refusal of that name, alone
abbrev pub plain_refusal : List ℕ → Tree
plain_refusal name = refusal_tree (name_field name ∷ [])

-- a refusal of what is over a limit
abbrev pub limit_refusal : ℕ → List ℕ → Tree
limit_refusal limit name =
    refusal_tree (number_field (codes "limit") limit ∷ name_field name ∷ [])

-- the refusal of a number that is not whole, with the JSON Pointer of its place
abbrev pub not_whole_tree : List ℕ → Tree
not_whole_tree place =
    refusal_tree (name_field (codes "NotWhole") ∷ text_field (codes "place") place ∷ [])

-- the refusal of a verification method that the key table does not have
abbrev pub unknown_method_tree : List ℕ → Tree
unknown_method_tree method =
    refusal_tree (text_field (codes "method") method ∷ name_field (codes "UnknownMethod") ∷ [])

-- the refusal of a key that the device does not own
abbrev pub no_key_tree : KeyName → Tree
no_key_tree key = refusal_tree (key_field (codes "key") key ∷ name_field (codes "NoKey") ∷ [])

-- ---- the refusal of a proof value

abbrev pub part_name : Part → List ℕ
part_name part.Array = codes "Array"
part_name part.BaseSignature = codes "BaseSignature"
part_name part.PublicKey = codes "PublicKey"
part_name part.HmacKey = codes "HmacKey"
part_name part.Signatures = codes "Signatures"
part_name part.Pointers = codes "Pointers"
part_name part.LabelMap = codes "LabelMap"
part_name part.Indexes = codes "Indexes"

abbrev pub fault_field : List ℕ → Member Tree
fault_field name = text_field (codes "fault") name

-- a fault alone, with a byte, with a part
abbrev pub plain_fault : List ℕ → List (Member Tree)
plain_fault name = fault_field name ∷ name_field (codes "ProofValue") ∷ []

abbrev pub fault_at : List ℕ → ℕ → List (Member Tree)
fault_at name at =
    number_field (codes "at") at ∷ fault_field name ∷ name_field (codes "ProofValue") ∷ []

abbrev pub fault_of : List ℕ → Part → List (Member Tree)
fault_of name p =
    fault_field name ∷ name_field (codes "ProofValue")
    ∷ text_field (codes "part") (part_name p) ∷ []

abbrev pub cbor_fields : CborFault → List (Member Tree)
cbor_fields (cbor.Truncated at) = fault_at (codes "Truncated") at
cbor_fields (cbor.NotShortest at) = fault_at (codes "NotShortest") at
cbor_fields (cbor.Forbidden at) = fault_at (codes "Forbidden") at
cbor_fields (cbor.RepeatedKey at) = fault_at (codes "RepeatedKey") at
cbor_fields (cbor.Trailing at) = fault_at (codes "Trailing") at
cbor_fields cbor.TooMany = plain_fault (codes "TooMany")
cbor_fields cbor.Memory = plain_fault (codes "Memory")

abbrev pub value_fields : ValueFault → List (Member Tree)
value_fields value.NotMultibase = plain_fault (codes "NotMultibase")
value_fields value.Header = plain_fault (codes "Header")
value_fields (value.Cbor fault) = cbor_fields fault
value_fields (value.Shape p) = fault_of (codes "Shape") p
value_fields (value.Length p) = fault_of (codes "Length") p
value_fields value.Indexes = plain_fault (codes "Indexes")
value_fields value.Memory = plain_fault (codes "Memory")

abbrev pub proof_value_tree : ValueFault → Tree
proof_value_tree fault = refusal_tree (value_fields fault)

-- ---- the answers

-- the issued document, and how many statements are mandatory and are there
abbrev pub issued_tree : Tree → ℕ → ℕ → Tree
issued_tree document mandatory statements = v.Object (
    new_member (codes "document") document
    ∷ number_field (codes "mandatory") mandatory
    ∷ number_field (codes "statements") statements
    ∷ new_member (codes "tie") (v.Bool false) ∷ [])

-- a yes: the issuer key, the label map, the mandatory indexes, the statement key and the number of
-- statements
abbrev pub verified_tree : KeyName → List ℕ → KeyName → ℕ → Tree
verified_tree issuer indexes key statements = v.Object (
    key_field (codes "key") issuer
    ∷ new_member (codes "labels") (v.Object [])
    ∷ new_member (codes "mandatory") (v.List (whole_items 0 indexes))
    ∷ key_field (codes "statementKey") key
    ∷ number_field (codes "statements") statements
    ∷ new_member (codes "tie") (v.Bool false)
    ∷ new_member (codes "verified") (v.Bool true) ∷ [])

abbrev pub cause_fields : Cause → List (Member Tree)
cause_fields cause.Nothing = name_field (codes "Nothing") ∷ []
cause_fields (cause.Labels n) = name_field (codes "Labels") ∷ number_field (codes "number") n ∷ []
cause_fields (cause.Indexes k) =
    number_field (codes "index") k ∷ name_field (codes "Indexes") ∷ []
cause_fields (cause.Count signatures statements) =
    name_field (codes "Count")
    ∷ number_field (codes "signatures") signatures
    ∷ number_field (codes "statements") statements ∷ []
cause_fields (cause.Expired expires moment) =
    text_field (codes "expires") expires
    ∷ text_field (codes "moment") moment
    ∷ name_field (codes "Expired") ∷ []
cause_fields cause.BaseSignature = name_field (codes "BaseSignature") ∷ []
cause_fields (cause.StatementSignature k) =
    number_field (codes "index") k ∷ name_field (codes "StatementSignature") ∷ []

-- a no, with its cause
abbrev pub rejected_tree : Cause → Tree
rejected_tree c = v.Object (
    new_member (codes "cause") (v.Object (cause_fields c))
    ∷ new_member (codes "verified") (v.Bool false) ∷ [])
