-- What is signed with a base proof. Data Integrity ECDSA Cryptosuites 1.0, create base proof
-- (ecdsa-sd-2023).
use Rattle.std.specs.Prelude.{◌≡◌, ◌↔◌, ℕ, List, [], ◌∷◌, ◌++◌, map, All, Contains, flat_map}
use Rattle.std.specs.List.{concat}
use Rattle.sha2.specs.Sha256.{sha256}
use Rattle.key_device.specs.declared.keys.KeyName.{KeyName}
use Rattle.nquads.specs.Terms.{Statement}
use Rattle.nquads.specs.Lines.{canonical_lines}
use Rattle.stmt_groups.specs.declared.types.BaseRecord.{BaseRecord}
use Rattle.stmt_groups.specs.Lines.{AreLines}
use Rattle.stmt_groups.specs.Datasets.{LabelledDataset, IsLabelled, dataset_lines}

-- The bytes that the issuer key signs: the digest of the options' lines, the statement key, and the
-- digest of the mandatory lines. -- Data Integrity ECDSA Cryptosuites 1.0, serializeSignData
abbrev pub sign_data : List (List ℕ) → KeyName → List (List ℕ) → List ℕ
sign_data options key mandatory =
    sha256 (concat options) ++ (key.bytes ++ sha256 (concat mandatory))

-- bytes that are signed under a key
pub record Signing : Type 0 where
  pub key : KeyName
  pub bytes : List ℕ

-- these bytes under this key
abbrev pub signing : KeyName → List ℕ → Signing
signing key bytes = record { key = key; bytes = bytes }

-- what a record stands for: its statement key signs each other line, its issuer key the sign data
abbrev pub record_signings : BaseRecord → List Signing
record_signings r =
    map (signing r.key) r.others ++ signing r.issuer (sign_data r.options r.key r.mandatory) ∷ []

-- what all records of a history stand for
abbrev pub history_signings : List BaseRecord → List Signing
history_signings history = flat_map record_signings history

-- the statements are split in two: the mandatory ones, and exactly the others
pub record IsSplit (whole mandatory others : List Statement) : Type 0 where
  pub part : All (Contains whole) mandatory
  pub rest : (s : Statement) → Contains others s ↔ (Contains whole s × (Contains mandatory s → ⊥))

-- The record of a base proof over a document and its options, with these statements mandatory.
pub record IsRecord (document options : LabelledDataset) (mandatory : List Statement)
    (r : BaseRecord) : Type 0 where
  pub document_labels : IsLabelled document
  pub options_labels : IsLabelled options
  pub others : List Statement
  pub split : IsSplit document.statements mandatory others
  pub mandatory_lines : r.mandatory ≡ canonical_lines document.label mandatory
  pub other_lines : r.others ≡ canonical_lines document.label others
  pub options_lines : r.options ≡ dataset_lines options

-- each text of a record is one line
pub record HasLines (r : BaseRecord) : Type 0 where
  pub options : AreLines r.options
  pub mandatory : AreLines r.mandatory
  pub others : AreLines r.others
