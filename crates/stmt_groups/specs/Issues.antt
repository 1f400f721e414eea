-- The record of an issue: the labels of its datasets are those of runs. Data Integrity ECDSA
-- Cryptosuites 1.0, create base proof (ecdsa-sd-2023).
use Rattle.std.specs.Prelude.{◌≡◌, ℕ, List, ◌++◌, codes, decimal}
use Rattle.digest_mac.specs.Digests.{digits}
use Rattle.digest_mac.specs.Labels.{hmac_label}
use Rattle.digest_mac.specs.declared.hash.Hash.{Hash}
use Rattle.nquads.specs.Terms.{Blank, Statement}
use Rattle.nquads.specs.Renaming.{StandsIn}
use Rattle.rdfc_ndegree.specs.Datasets.{nodes_of}
use Rattle.rdfc_ndegree.specs.Issuers.{number}
use Rattle.rdfc_ndegree.specs.Run.{IsRun, RunOutcome}
use Rattle.stmt_groups.specs.declared.types.BaseRecord.{BaseRecord}
use Rattle.stmt_groups.specs.Datasets.{LabelledDataset}
use Rattle.stmt_groups.specs.Records.{IsRecord}

-- the canonical identifier of a number. RDF Canonicalization, 4.5
abbrev pub canonical_label : ℕ → List ℕ
canonical_label n = codes "c14n" ++ decimal n

-- The labels are those of one run by the hash: each blank node of the dataset has the label that
-- belongs to its number in the run. RDF Canonicalization, 4.4
pub record IsLabelledByRun (hash : Hash) (label_for : ℕ → List ℕ) (d : LabelledDataset)
    : Type 0 where
  pub run : RunOutcome Blank
  pub is_run : IsRun (nodes_of (digits hash) d.statements) run
  pub labels : (b : Blank) → StandsIn d.statements b
      → d.label b ≡ label_for (number (nodes_of (digits hash) d.statements) run.issuer b)

-- The record of an issue over a document and its options, with these statements mandatory and this
-- secret: by the hash of the record the options have canonical labels, and the document has the
-- labels under the secret; and the lines of the record are theirs.
pub record IsIssueRecord (secret : List ℕ) (document options : LabelledDataset)
    (mandatory : List Statement) (r : BaseRecord) : Type 0 where
  pub document_labels : IsLabelledByRun r.hash (hmac_label r.hash secret) document
  pub options_labels : IsLabelledByRun r.hash canonical_label options
  pub is_record : IsRecord document options mandatory r
