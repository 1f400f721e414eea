-- What a yes says of the records that were made before it.
use Rattle.std.specs.Prelude.{◌≡◌, ◌≢◌, ℕ, true, List, map, All, Contains, Some, slice_get}
use Rattle.std.specs.List.{concat}
use Rattle.sha2.specs.Sha256.{sha256}
use Rattle.base_types.specs.Sets.{AllDiffer, HasExactly}
use Rattle.key_device.specs.declared.keys.KeyName.{KeyName}
use Rattle.key_device.specs.declared.keys.Signature.{Signature}
use Rattle.key_device.specs.Devices.{Acceptance}
use Rattle.nquads.specs.Terms.{Blank, Statement}
use Rattle.nquads.specs.Renaming.{IsOneToOne, Same, rename}
use Rattle.stmt_groups.specs.declared.types.BaseRecord.{BaseRecord}
use Rattle.stmt_groups.specs.Lines.{lines_at, other_lines}
use Rattle.stmt_groups.specs.Datasets.{LabelledDataset, IsLabelled, IsAt, IsElsewhere, dataset_lines}
use Rattle.stmt_groups.specs.Records.{Signing, history_signings, HasLines, IsRecord}
use Rattle.stmt_groups.specs.Proofs.{VerifyData, checked_signings, mandatory_lines}

-- equal digests of the two texts mean equal texts
abbrev pub NoCollision : List (List ℕ) → List (List ℕ) → Type 0
NoCollision first second =
    sha256 (concat first) ≡ sha256 (concat second) → concat first ≡ concat second

-- Each key has one use: no two records have one statement key, and none of these is the issuer's
-- key, or that of a record.
pub record KeysServeOnce (history : List BaseRecord) (issuer : KeyName) : Type 0 where
  pub differ : AllDiffer (map (λ (r : BaseRecord). r.key) history)
  pub no_issuer : (r s : BaseRecord) → Contains history r → Contains history s → r.key ≢ s.issuer
  pub not_this_issuer : (r : BaseRecord) → Contains history r → r.key ≢ issuer

-- The digests of the two pairs of texts that are compared do not collide: the options' and the
-- mandatory texts of what is verified and of the record with its keys.
pub record NoTextsCollide (history : List BaseRecord) (v : VerifyData) : Type 0 where
  pub options : (r : BaseRecord) → Contains history r → r.issuer ≡ v.issuer → r.key ≡ v.proof.key
      → NoCollision r.options (dataset_lines v.options)
  pub mandatory : (r : BaseRecord) → Contains history r → r.issuer ≡ v.issuer → r.key ≡ v.proof.key
      → NoCollision r.mandatory (mandatory_lines v)

-- A history of records covers what is verified: its texts are lines; what is checked and accepted
-- was signed with one of its records; each key has one use; and the digests do not collide.
pub record IsCovered (history : List BaseRecord) (accepts : Acceptance) (v : VerifyData)
    : Type 0 where
  pub have_lines : All HasLines history
  pub was_signed : (x : Signing) (s : Signature) → Contains (checked_signings v) x
      → accepts x.key x.bytes s ≡ true → Contains (history_signings history) x
  pub keys : KeysServeOnce history v.issuer
  pub texts : NoTextsCollide history v

-- The record holds of a document and its options: the document's lines at the indexes are exactly
-- its mandatory ones, each other line is one of its other lines, and its options' lines are those
-- of the options.
pub record Holds (r : BaseRecord) (document options : LabelledDataset) (indexes : List ℕ)
    : Type 0 where
  pub document_labels : IsLabelled document
  pub options_labels : IsLabelled options
  pub mandatory : lines_at indexes (dataset_lines document) ≡ r.mandatory
  pub others : All (Contains r.others) (other_lines indexes (dataset_lines document))
  pub options_lines : dataset_lines options ≡ r.options

-- Exactly one record of the history has these keys, and it is this one.
pub record IsOnlyRecord (history : List BaseRecord) (issuer key : KeyName) (r : BaseRecord)
    : Type 0 where
  pub place : ℕ
  pub stands : slice_get history place ≡ Some r
  pub issuer_is : r.issuer ≡ issuer
  pub key_is : r.key ≡ key
  pub only : (other : ℕ) (s : BaseRecord) → slice_get history other ≡ Some s
      → s.issuer ≡ issuer → s.key ≡ key → other ≡ place

-- Exactly one record has the accepted keys, and it holds of the document and its options.
pub record NamesOne (history : List BaseRecord) (v : VerifyData) : Type 0 where
  pub one : BaseRecord
  pub only : IsOnlyRecord history v.issuer v.proof.key one
  pub holds : Holds one v.document v.options v.proof.indexes

-- The document reveals a part of an issued one. One renaming of its blank nodes sends the
-- statements at the indexes to exactly the mandatory ones, and each other statement to an issued
-- one that is not mandatory.
pub record Reveals (document : LabelledDataset) (indexes : List ℕ)
    (issued mandatory : List Statement) : Type 0 where
  pub renaming : Blank → Blank
  pub one_to_one : IsOneToOne renaming document.statements
  pub exactly_mandatory : HasExactly mandatory (λ t.
      (s : Statement) × IsAt indexes document s × (rename renaming s ≡ t))
  pub others_issued : (s : Statement) → IsElsewhere indexes document s
      → Contains issued (rename renaming s) × (Contains mandatory (rename renaming s) → ⊥)

-- What is verified reveals the issue of the record: of whatever document and options it is the
-- record, these are the options up to blank nodes, and the document reveals a part of that one.
abbrev pub RevealsIssueOf : BaseRecord → VerifyData → Type 0
RevealsIssueOf r v = (issued options : LabelledDataset) (mandatory : List Statement)
    → IsRecord issued options mandatory r
    → Same v.options.statements options.statements
    × Reveals v.document v.proof.indexes issued.statements mandatory
