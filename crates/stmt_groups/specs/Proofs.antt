-- When a derived proof is good. Data Integrity ECDSA Cryptosuites 1.0, verify derived proof
-- (ecdsa-sd-2023).
use Rattle.std.specs.Prelude.{◌≡◌, ◌≢◌, ◌<◌, ℕ, List, [], ◌∷◌, map, true, All, length}
use Rattle.std.specs.List.{AllZip}
use Rattle.key_device.specs.declared.keys.KeyName.{KeyName}
use Rattle.key_device.specs.declared.keys.Signature.{Signature}
use Rattle.key_device.specs.Devices.{Acceptance}
use Rattle.stmt_groups.specs.Lines.{lines_at, other_lines}
use Rattle.stmt_groups.specs.Datasets.{LabelledDataset, dataset_lines}
use Rattle.stmt_groups.specs.Records.{Signing, signing, sign_data}

-- What a derived proof says beside its label map: the statement key, the issuer's signature, the
-- signatures of the statements that are not mandatory, and the places of those that are.
pub record DerivedProof : Type 0 where
  pub key : KeyName
  pub signature : Signature
  pub signatures : List Signature
  pub indexes : List ℕ

-- What a derived proof is verified with: the issuer's key, the document and the proof options under
-- labels, and the proof. -- Data Integrity ECDSA Cryptosuites 1.0, createVerifyData
pub record VerifyData : Type 0 where
  pub issuer : KeyName
  pub document : LabelledDataset
  pub options : LabelledDataset
  pub proof : DerivedProof

-- the lines of the document that the proof says are mandatory
abbrev pub mandatory_lines : VerifyData → List (List ℕ)
mandatory_lines v = lines_at v.proof.indexes (dataset_lines v.document)

-- all its other lines
abbrev pub non_mandatory_lines : VerifyData → List (List ℕ)
non_mandatory_lines v = other_lines v.proof.indexes (dataset_lines v.document)

-- the bytes that the issuer's signature is checked on
abbrev pub verify_bytes : VerifyData → List ℕ
verify_bytes v = sign_data (dataset_lines v.options) v.proof.key (mandatory_lines v)

-- each index is the place of one of the lines
abbrev pub AreBelow : List (List ℕ) → List ℕ → Type 0
AreBelow lines indexes = All (λ i. i < length lines) indexes

-- there are as many signatures as lines that are not mandatory
abbrev pub CountsMatch : VerifyData → Type 0
CountsMatch v = length v.proof.signatures ≡ length (non_mandatory_lines v)

-- A good proof: the document has a statement; each index is the place of one of its lines; the
-- counts match; the issuer's key accepts the issuer's signature; and the statement key accepts the
-- i-th signature on the i-th line that is not mandatory.
pub record IsGood (accepts : Acceptance) (v : VerifyData) : Type 0 where
  pub not_empty : v.document.statements ≢ []
  pub below : AreBelow (dataset_lines v.document) v.proof.indexes
  pub counts : CountsMatch v
  pub base_signature : accepts v.issuer (verify_bytes v) v.proof.signature ≡ true
  pub statement_signatures :
      AllZip (λ l s. accepts v.proof.key l s ≡ true) (non_mandatory_lines v) v.proof.signatures

-- what a device is asked to accept for it: the sign data under the issuer's key, and each line that
-- is not mandatory under the statement key
abbrev pub checked_signings : VerifyData → List Signing
checked_signings v =
    signing v.issuer (verify_bytes v) ∷ map (signing v.proof.key) (non_mandatory_lines v)
