-- What is signed with a base proof, when a derived proof is good and what a yes says of the records
-- made before it, each by the hash that is chosen. Data Integrity ECDSA Cryptosuites 1.0, create
-- base proof and verify derived proof (ecdsa-sd-2023).
use Rattle.std.specs.Prelude.{◌≡◌, ◌≢◌, ℕ, List, [], ◌∷◌, ◌++◌, map, flat_map, true, All, Contains, length}
use Rattle.std.specs.List.{AllZip, concat}
use Rattle.digest_mac.specs.Digests.{digest}
use Rattle.digest_mac.specs.declared.hash.Hash.{Hash}
use Rattle.key_device.specs.declared.keys.KeyName.{KeyName}
use Rattle.key_device.specs.declared.keys.Signature.{Signature}
use Rattle.key_device.specs.Devices.{Acceptance}
use Rattle.stmt_groups.specs.declared.types.BaseRecord.{BaseRecord}
use Rattle.stmt_groups.specs.Datasets.{dataset_lines}
use Rattle.stmt_groups.specs.Records.{Signing, signing, HasLines}
use Rattle.stmt_groups.specs.Proofs.{AreBelow, CountsMatch, VerifyData, mandatory_lines, non_mandatory_lines}
use Rattle.stmt_groups.specs.Soundness.{Holds, IsOnlyRecord, KeysServeOnce}

-- ---- what is signed

-- The bytes that the issuer key signs: the digest of the options' lines, the statement key, and the
-- digest of the mandatory lines. -- Data Integrity ECDSA Cryptosuites 1.0, serializeSignData
abbrev pub sign_data_by : Hash → List (List ℕ) → KeyName → List (List ℕ) → List ℕ
sign_data_by hash options key mandatory =
    digest hash (concat options) ++ (key.bytes ++ digest hash (concat mandatory))

-- the bytes that the issuer key signs for a record, by the hash of the record
abbrev pub bytes_signed_for : BaseRecord → List ℕ
bytes_signed_for r = sign_data_by r.hash r.options r.key r.mandatory

-- what a record stands for: its statement key signs each other line, its issuer key these bytes
abbrev pub signings_for : BaseRecord → List Signing
signings_for r = map (signing r.key) r.others ++ signing r.issuer (bytes_signed_for r) ∷ []

-- what all records of a history stand for
abbrev pub signings_for_all : List BaseRecord → List Signing
signings_for_all history = flat_map signings_for history

-- ---- a good proof

-- the bytes that the issuer's signature is checked on
abbrev pub verify_bytes_by : Hash → VerifyData → List ℕ
verify_bytes_by hash v =
    sign_data_by hash (dataset_lines v.options) v.proof.key (mandatory_lines v)

-- A good proof by a hash: the document has a statement; each index is the place of one of its
-- lines; the counts match; the issuer's key accepts the issuer's signature; and the statement key
-- accepts the i-th signature on the i-th line that is not mandatory.
pub record IsGoodBy (hash : Hash) (accepts : Acceptance) (v : VerifyData) : Type 0 where
  pub not_empty : v.document.statements ≢ []
  pub below : AreBelow (dataset_lines v.document) v.proof.indexes
  pub counts : CountsMatch v
  pub base_signature : accepts v.issuer (verify_bytes_by hash v) v.proof.signature ≡ true
  pub statement_signatures :
      AllZip (λ l s. accepts v.proof.key l s ≡ true) (non_mandatory_lines v) v.proof.signatures

-- what a device is asked to accept for it
abbrev pub checked_by : Hash → VerifyData → List Signing
checked_by hash v =
    signing v.issuer (verify_bytes_by hash v)
    ∷ map (signing v.proof.key) (non_mandatory_lines v)

-- ---- what a yes says

-- equal digests of the two texts mean equal texts
abbrev pub NoCollisionBy : Hash → List (List ℕ) → List (List ℕ) → Type 0
NoCollisionBy hash first second =
    digest hash (concat first) ≡ digest hash (concat second) → concat first ≡ concat second

-- The digests of the two pairs of texts that are compared do not collide, by the hash of the
-- record: the options' and the mandatory texts of what is verified and of the record with its keys.
pub record NoTextsCollideBy (history : List BaseRecord) (v : VerifyData) : Type 0 where
  pub options : (r : BaseRecord) → Contains history r → r.issuer ≡ v.issuer → r.key ≡ v.proof.key
      → NoCollisionBy r.hash r.options (dataset_lines v.options)
  pub mandatory : (r : BaseRecord) → Contains history r → r.issuer ≡ v.issuer → r.key ≡ v.proof.key
      → NoCollisionBy r.hash r.mandatory (mandatory_lines v)

-- the name of a key has 35 bytes. Data Integrity ECDSA Cryptosuites 1.0, 2.1.1
abbrev pub IsKeySized : KeyName → Type 0
IsKeySized key = length key.bytes ≡ 35

-- the names of the statement keys of a history have it
abbrev pub HaveSizedKeys : List BaseRecord → Type 0
HaveSizedKeys history = All (λ (r : BaseRecord). IsKeySized r.key) history

-- each record of a history was made by the hash
abbrev pub AreBy : Hash → List BaseRecord → Type 0
AreBy hash history = All (λ (r : BaseRecord). r.hash ≡ hash) history

-- A history of records covers what is verified by a hash: its texts are lines, and the names of the
-- statement keys have their length; what is checked and accepted was signed with one of its
-- records; each key has one use; and the digests do not collide.
pub record IsCoveredBy (hash : Hash) (history : List BaseRecord) (accepts : Acceptance)
    (v : VerifyData) : Type 0 where
  pub have_lines : All HasLines history
  pub have_keys : HaveSizedKeys history
  pub has_key : IsKeySized v.proof.key
  pub was_signed : (x : Signing) (s : Signature) → Contains (checked_by hash v) x
      → accepts x.key x.bytes s ≡ true → Contains (signings_for_all history) x
  pub keys : KeysServeOnce history v.issuer
  pub texts : NoTextsCollideBy history v

-- Exactly one record has the accepted keys. It was made by this hash, and it holds of the document
-- and its options.
pub record NamesOneBy (hash : Hash) (history : List BaseRecord) (v : VerifyData) : Type 0 where
  pub one : BaseRecord
  pub only : IsOnlyRecord history v.issuer v.proof.key one
  pub hash_is : one.hash ≡ hash
  pub holds : Holds one v.document v.options v.proof.indexes
