-- What verifying answers. Data Integrity ECDSA Cryptosuites 1.0, verify derived proof
-- (ecdsa-sd-2023).
use Rattle.std.specs.Prelude.{◌≡◌, ◌≢◌, ◌⊎◌, ◌≤◌, ◌<◌, ℕ, false, List, [], map, Some, length, slice_get}
use Rattle.json_tree.specs.declared.tree.Tree.{Tree}
use Rattle.key_device.specs.declared.keys.KeyName.{KeyName}
use Rattle.key_device.specs.declared.keys.Signature.{Signature}
use Rattle.key_device.specs.Devices.{Acceptance}
use Rattle.key_device.specs.Tables.{key_for}
use Rattle.nquads.specs.Terms.{Statement}
use Rattle.nquads.specs.Lines.{canonical_lines}
use Rattle.nquads.specs.Renaming.{Same}
use Rattle.digest_mac.specs.declared.hash.Hash.TheVariants.{Sha256, Sha384}
use Rattle.proof_cbor.specs.declared.fault.ValueFault.{ValueFault}
use Rattle.proof_cbor.specs.declared.fault.ValueFault.TheVariants.{Header}
use Rattle.proof_cbor.specs.declared.value.DerivedValue.{DerivedValue}
use Rattle.proof_cbor.specs.Refusals.{RefusesDerived}
use Rattle.proof_cbor.specs.Values.{SpellsDerived}
use Rattle.ld_rdf.specs.Flat.{IsFlatMeaning}
use Rattle.stmt_groups.specs.declared.types.BaseRecord.{BaseRecord}
use Rattle.stmt_groups.specs.declared.types.Cause.{Cause}
use Rattle.stmt_groups.specs.declared.types.Cause.TheVariants as cause
use Rattle.stmt_groups.specs.Lines.{other_lines}
use Rattle.stmt_groups.specs.Datasets.{LabelledDataset}
use Rattle.stmt_groups.specs.Records.{IsRecord}
use Rattle.stmt_groups.specs.Proofs.{AreBelow, DerivedProof, IsGood, VerifyData, verify_bytes}
use Rattle.stmt_groups.specs.Soundness.{IsCovered, NamesOne, Reveals}
use Rattle.vc_session.specs.Requests.{VerifyParts, IsVerify, verify_body, verify_options}
use Rattle.vc_session.specs.Issuing.{no_label, unlabelled}

-- bytes as a key name and as a signature
abbrev pub key_name : List ℕ → KeyName
key_name bytes = record { bytes = bytes }

abbrev pub signature : List ℕ → Signature
signature bytes = record { bytes = bytes }

-- what a derived value says beside its label map
abbrev pub proof_of : DerivedValue → DerivedProof
proof_of value = record {
  key = key_name value.key;
  signature = signature value.signature;
  signatures = map signature value.signatures;
  indexes = value.indexes;
}

-- the text spells the derived value, and by SHA-256
abbrev pub SpellsBySha256 : DerivedValue → List ℕ → Type 0
SpellsBySha256 value text = SpellsDerived value text × (value.hash ≡ Sha256)

-- The text is refused as a derived value, or it spells one by SHA-384, whose header is not taken.
abbrev pub RefusesBySha256 : List ℕ → ValueFault → Type 0
RefusesBySha256 text fault =
    RefusesDerived text fault
    ⊎ ((value : DerivedValue) × SpellsDerived value text × (value.hash ≡ Sha384)
    × (fault ≡ Header))

-- a value for statements that have no blank nodes and are all mandatory
abbrev pub IsPlainValue : DerivedValue → Type 0
IsPlainValue value = (value.signatures ≡ []) × (value.labels ≡ [])

-- a flat request for verifying, with its statements and its value
pub record VerifyCase : Type 0 where
  pub parts : VerifyParts
  pub statements : List Statement
  pub options : List Statement
  pub value : DerivedValue

pub record IsVerifyCase (r : Tree) (c : VerifyCase) : Type 0 where
  pub are : IsVerify r c.parts
  pub means : IsFlatMeaning (verify_body c.parts) c.statements
  pub options_mean : IsFlatMeaning (verify_options c.parts) c.options
  pub spells : SpellsBySha256 c.value c.parts.value
  pub plain : IsPlainValue c.value

-- the canonical lines of its statements
abbrev pub lines_of : VerifyCase → List (List ℕ)
lines_of c = canonical_lines no_label c.statements

-- the index at this place of the list is the first that is no line's
pub record IsFirstOver (lines : List (List ℕ)) (indexes : List ℕ) (k : ℕ) : Type 0 where
  pub index : ℕ
  pub stands : slice_get indexes k ≡ Some index
  pub over : length lines ≤ index
  pub first : (j n : ℕ) → j < k → slice_get indexes j ≡ Some n → n < length lines

-- there are statements, each index is one's, and the signatures are as many as the others
pub record IsRight (c : VerifyCase) : Type 0 where
  pub some_statements : c.statements ≢ []
  pub below : AreBelow (lines_of c) c.value.indexes
  pub count : length c.value.signatures ≡ length (other_lines c.value.indexes (lines_of c))

-- what a case is verified with, under an issuer's key
abbrev pub verify_data : VerifyCase → KeyName → VerifyData
verify_data c issuer = record {
  issuer = issuer;
  document = unlabelled c.statements;
  options = unlabelled c.options;
  proof = proof_of c.value;
}

-- The document does not verify, and this is the cause: the first that applies.
abbrev pub HasCause : Acceptance → VerifyCase → Cause → Type 0
HasCause accepts c cause.Nothing = c.statements ≡ []
HasCause accepts c (cause.Indexes k) =
    (c.statements ≢ []) × IsFirstOver (lines_of c) c.value.indexes k
HasCause accepts c (cause.Count signatures statements) =
    (c.statements ≢ []) × AreBelow (lines_of c) c.value.indexes
    × (signatures ≡ length c.value.signatures)
    × (statements ≡ length (other_lines c.value.indexes (lines_of c)))
    × (signatures ≢ statements)
HasCause accepts c cause.BaseSignature =
    IsRight c
    × ((issuer : KeyName) × (key_for c.parts.table c.parts.method ≡ Some issuer)
    × (accepts issuer (verify_bytes (verify_data c issuer)) (signature c.value.signature) ≡ false))
HasCause accepts c (cause.Labels n) = ⊥
HasCause accepts c (cause.Expired expires moment) = ⊥
HasCause accepts c (cause.StatementSignature i) = ⊥

-- The document verifies with the issuer's key of its method.
pub record IsYes (accepts : Acceptance) (c : VerifyCase) (issuer : KeyName) : Type 0 where
  pub key_is : key_for c.parts.table c.parts.method ≡ Some issuer
  pub good : IsGood accepts (verify_data c issuer)

-- A history of records names one issue of what is verified. Exactly one record has the accepted
-- keys, and it holds of the document and its options. Where it is the record of an issue, the
-- options are the issued ones up to blank nodes, and the document reveals a part of the issued one.
pub record NamesOneIssue (history : List BaseRecord) (v : VerifyData) : Type 0 where
  pub names : NamesOne history v
  pub reveals : (issued options : LabelledDataset) (mandatory : List Statement)
      → IsRecord issued options mandatory names.one
      → Same v.options.statements options.statements
      × Reveals v.document v.proof.indexes issued.statements mandatory

-- What a yes says of every history of records that covers it.
abbrev pub IsSound : Acceptance → VerifyCase → KeyName → Type 0
IsSound accepts c issuer =
    (history : List BaseRecord) → IsCovered history accepts (verify_data c issuer)
    → NamesOneIssue history (verify_data c issuer)
