-- Label maps of derived proofs, the renaming that one makes of canonical labels, and when a derived
-- proof value is good. Data Integrity ECDSA Cryptosuites 1.0, createLabelMapFunction,
-- parseDerivedProofValue and verify derived proof (ecdsa-sd-2023).
use Rattle.std.specs.Prelude.{◌≡◌, ◌↔◌, ◌==◌, ◌+◌, ◌<◌, ℕ, List, [], ◌∷◌, Contains, length, map, if◌then◌else◌}
use Rattle.base_types.specs.Sets.{AllDiffer, HasExactly}
use Rattle.digest_mac.specs.Labels.{multibase_text}
use Rattle.digest_mac.specs.declared.hash.Hash.{Hash}
use Rattle.key_device.specs.declared.keys.KeyName.{KeyName}
use Rattle.key_device.specs.Devices.{Acceptance}
use Rattle.nquads.specs.Terms.{Blank, by_label, Statement}
use Rattle.nquads.specs.Renaming.{NamesAll, IsRenaming, Pair, StandsIn, image}
use Rattle.stmt_groups.specs.declared.types.BaseRecord.{BaseRecord}
use Rattle.stmt_groups.specs.Datasets.{LabelledDataset}
use Rattle.stmt_groups.specs.Proofs.{DerivedProof, VerifyData}
use Rattle.stmt_groups.specs.Soundness.{Holds}
use Rattle.stmt_groups.specs.Groups.{under}
use Rattle.stmt_groups.specs.ByHash.{IsGoodBy}

-- ---- label maps

-- An entry of a label map: a canonical number, and the digest that the label is made of.
pub record LabelEntry : Type 0 where
  pub number : ℕ
  pub digest : List ℕ

-- the entry with this number and this digest
abbrev pub entry : ℕ → List ℕ → LabelEntry
entry number digest = record { number = number; digest = digest }

-- the numbers of the entries
abbrev pub numbers_of : List LabelEntry → List ℕ
numbers_of entries = map (λ (e : LabelEntry). e.number) entries

-- their digests
abbrev pub digests_of : List LabelEntry → List (List ℕ)
digests_of entries = map (λ (e : LabelEntry). e.digest) entries

-- The label map is one for so many canonical numbers: it names exactly these, each once, and no two
-- of them have one digest.
pub record IsLabelMap (count : ℕ) (entries : List LabelEntry) : Type 0 where
  pub names : HasExactly (numbers_of entries) (λ n. n < count)
  pub once : AllDiffer (numbers_of entries)
  pub one_to_one : AllDiffer (digests_of entries)

-- the digest for a number; no bytes, where it has none
abbrev pub digest_for : List LabelEntry → ℕ → List ℕ
digest_for [] n = []
digest_for (e ∷ es) n = if e.number == n then e.digest else digest_for es n

-- ---- renamings

-- the blank node that is named by a label
abbrev pub named_by : List ℕ → Blank
named_by label = record { kind = by_label; name = label }

-- this pair of blank nodes
abbrev pub pair : Blank → Blank → Pair
pair from to = record { from = from; to = to }

-- the renaming below, of blank nodes of which the first has this number
abbrev pub renaming_from : ℕ → List Blank → List LabelEntry → List Pair
renaming_from n [] entries = []
renaming_from n (b ∷ bs) entries =
    pair b (named_by (multibase_text (digest_for entries n)))
    ∷ renaming_from (n + 1) bs entries

-- The renaming that a label map makes of blank nodes, which stand by their canonical numbers: the
-- one with the number n gets the label of the digest for n.
abbrev pub renaming_by : List Blank → List LabelEntry → List Pair
renaming_by numbered entries = renaming_from 0 numbered entries

-- the dataset with the names that a renaming gives its blank nodes as their labels
abbrev pub labelled_by : List Pair → List Statement → LabelledDataset
labelled_by pairs q = under (λ b. (image pairs b).name) q

-- ---- derived proof values

-- A derived proof with its hash and its label map.
pub record DerivedProofValue : Type 0 where
  pub hash : Hash
  pub labels : List LabelEntry
  pub proof : DerivedProof

-- A dataset with its canonical labels by a hash: the blank nodes stand by their numbers, from 0.
pub record NumberedDataset : Type 0 where
  pub statements : List Statement
  pub hash : Hash
  pub numbered : List Blank

-- The list has each blank node of the dataset once, and nothing else.
pub record AreNumbered (q : List Statement) (numbered : List Blank) : Type 0 where
  pub each : (b : Blank) → StandsIn q b ↔ Contains numbered b
  pub once : AllDiffer numbered

-- what a value is verified with: the document under the labels of its label map
abbrev pub value_data :
    KeyName → NumberedDataset → LabelledDataset → DerivedProofValue → VerifyData
value_data issuer document options value = record {
  issuer = issuer;
  document = labelled_by (renaming_by document.numbered value.labels) document.statements;
  options = options;
  proof = value.proof;
}

-- A good value for a document with its canonical labels: it is by the hash of these; its label map
-- is one for their numbers; and its proof is good over the document under the labels of the map.
pub record IsGoodValue (accepts : Acceptance) (issuer : KeyName) (document : NumberedDataset)
    (options : LabelledDataset) (value : DerivedProofValue) : Type 0 where
  pub hash_is : value.hash ≡ document.hash
  pub labels_are : IsLabelMap (length document.numbered) value.labels
  pub good : IsGoodBy value.hash accepts (value_data issuer document options value)

-- ---- what a record holds of

-- The record holds of a document under a renaming of its blank nodes, and of its options: under the
-- names that the renaming gives, the document's lines at the indexes are exactly its mandatory
-- ones, and each other line is one of its other lines; and its options' lines are those of the
-- options under some labels.
pub record HoldsUnder (r : BaseRecord) (pairs : List Pair) (document options : List Statement)
    (indexes : List ℕ) : Type 0 where
  pub renaming : IsRenaming pairs
  pub names : NamesAll pairs document
  pub options_label : Blank → List ℕ
  pub holds : Holds r (labelled_by pairs document)
      (under options_label options) indexes
