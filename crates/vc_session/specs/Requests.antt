-- Flat requests for issuing and for verifying, and their parts.
use Rattle.std.specs.Prelude.{◌≡◌, ℕ, List, [], ◌∷◌, Some, None, codes, length}
use Rattle.std.specs.List.{AllZip}
use Rattle.hex.specs.Hex.{IsBytes, encode_lower}
use Rattle.json_tree.specs.declared.tree.Tree.{Tree}
use Rattle.json_tree.specs.declared.tree.Tree.TheVariants as v
use Rattle.json_tree.specs.declared.tree.Member.{Member}
use Rattle.json_tree.specs.declared.place.Step.{Step}
use Rattle.json_tree.specs.declared.place.Step.TheVariants.{Key}
use Rattle.json_tree.specs.Places.{look}
use Rattle.json_tree.specs.Trees.{element, new_member}
use Rattle.key_device.specs.declared.table.KeyEntry.{KeyEntry}
use Rattle.ld_rdf.specs.Flat.{HasText, IsFlat, at_context}
use Rattle.json_tree.specs.Members.{with_member, without}
use Rattle.ld_rdf.specs.Reduced.{statements_request, with_context}

-- the place of a member of the root
abbrev pub at : List ℕ → List Step
at key = Key key ∷ []

abbrev pub proof_name : List ℕ
proof_name = codes "proof"

abbrev pub value_name : List ℕ
value_name = codes "proofValue"

-- a member's name and value: a method, and its key as 70 lower-case hexadecimal digits
pub record IsKeyEntry (m : Member Tree) (e : KeyEntry) : Type 0 where
  pub method : m.key ≡ e.method
  pub digits : m.value ≡ v.Text (encode_lower e.key.bytes)
  pub long : length e.key.bytes ≡ 35
  pub bytes : IsBytes e.key.bytes

-- an object whose members are the entries of this key table, in order
pub record IsKeyTable (keys : Tree) (table : List KeyEntry) : Type 0 where
  pub members : List (Member Tree)
  pub is : keys ≡ v.Object members
  pub each : AllZip IsKeyEntry members table

-- Proof options that have neither a time nor a value, with this verification method. Data Integrity
-- 1.0, proofs; its ECDSA Cryptosuites 1.0, base proof configuration (ecdsa-sd-2023)
pub record HasShape (options : Tree) (method : List ℕ) : Type 0 where
  pub purpose : List ℕ
  pub type_is : HasText (at (codes "type")) options (codes "DataIntegrityProof")
  pub suite_is : HasText (at (codes "cryptosuite")) options (codes "ecdsa-sd-2023")
  pub method_is : HasText (at (codes "verificationMethod")) options method
  pub purpose_is : HasText (at (codes "proofPurpose")) options purpose
  pub no_created : look (at (codes "created")) options ≡ None
  pub no_expires : look (at (codes "expires")) options ≡ None
  pub no_value : look (at value_name) options ≡ None
  pub no_context : look (at at_context) options ≡ None

-- the pointers by which every statement is mandatory: the one empty pointer
abbrev pub whole_document : Tree
whole_document = v.List (element 0 (v.Text []) ∷ [])

-- the members of a request for issuing, with any list of pointers
abbrev pub issue_object : Tree → Tree → Tree → Tree → Tree → Tree
issue_object contexts document keys mandatory options = v.Object (
    new_member (codes "contexts") contexts
    ∷ new_member (codes "document") document
    ∷ new_member (codes "keys") keys
    ∷ new_member (codes "mandatory") mandatory
    ∷ new_member (codes "options") options ∷ [])

-- the parts of a request for issuing
pub record IssueParts : Type 0 where
  pub contexts : Tree
  pub document : Tree
  pub keys : Tree
  pub options : Tree
  -- the name of the context that the document takes, the verification method and the key table
  pub name : List ℕ
  pub method : List ℕ
  pub table : List KeyEntry

-- the request for the statements of the document, and that of the options, which take its context
abbrev pub issue_body : IssueParts → Tree
issue_body p = statements_request p.contexts p.document

abbrev pub issue_options : IssueParts → Tree
issue_options p = statements_request p.contexts (with_context p.name p.options)

-- A flat request for issuing: exactly these members, every statement mandatory, a flat document
-- without a proof, and flat options of the right shape.
pub record IsIssue (r : Tree) (p : IssueParts) : Type 0 where
  pub is : r ≡ issue_object p.contexts p.document p.keys whole_document p.options
  pub document : IsFlat (issue_body p)
  pub no_proof : look (at proof_name) p.document ≡ None
  pub context_is : HasText (at at_context) p.document p.name
  pub options : IsFlat (issue_options p)
  pub shape : HasShape p.options p.method
  pub table : IsKeyTable p.keys p.table

pub record IsFlatIssue (r : Tree) : Type 0 where
  pub parts : IssueParts
  pub are : IsIssue r parts

-- the document with the options and a proof value as its proof
abbrev pub with_proof : Tree → Tree → List ℕ → Tree
with_proof document options value =
    with_member proof_name (with_member value_name (v.Text value) options) document

-- the members of a request for verifying
abbrev pub verify_object : Tree → Tree → Tree → Tree
verify_object contexts document keys = v.Object (
    new_member (codes "contexts") contexts
    ∷ new_member (codes "document") document
    ∷ new_member (codes "keys") keys ∷ [])

-- the parts of a request for verifying
pub record VerifyParts : Type 0 where
  pub contexts : Tree
  pub document : Tree
  pub keys : Tree
  pub proof : Tree
  pub name : List ℕ
  pub method : List ℕ
  pub value : List ℕ
  pub table : List KeyEntry

-- the options: the proof without its value
abbrev pub options_of : VerifyParts → Tree
options_of p = without value_name p.proof

abbrev pub verify_body : VerifyParts → Tree
verify_body p = statements_request p.contexts (without proof_name p.document)

abbrev pub verify_options : VerifyParts → Tree
verify_options p = statements_request p.contexts (with_context p.name (options_of p))

-- A flat request for verifying: exactly these members, a document that is flat without its proof,
-- and a proof with a value whose options are flat and of the right shape.
pub record IsVerify (r : Tree) (p : VerifyParts) : Type 0 where
  pub is : r ≡ verify_object p.contexts p.document p.keys
  pub document : IsFlat (verify_body p)
  pub proof_is : look (at proof_name) p.document ≡ Some p.proof
  pub context_is : HasText (at at_context) p.document p.name
  pub value_is : HasText (at value_name) p.proof p.value
  pub options : IsFlat (verify_options p)
  pub shape : HasShape (options_of p) p.method
  pub table : IsKeyTable p.keys p.table

pub record IsFlatVerify (r : Tree) : Type 0 where
  pub parts : VerifyParts
  pub are : IsVerify r parts
