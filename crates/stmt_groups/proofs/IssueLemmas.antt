-- Labels of issues with no blank node and with one; and what a good value names.
use Rattle.std.proofs.Common.{◌≡◌, ℕ, ◌+◌, Bool, true, List, [], ◌∷◌, All, Contains, refl, ap, ◌∙◌, arith, codes, if◌then◌else◌}
use Rattle.std.specs.Fmt.{digits as decimal_digits}
use Rattle.std.specs.Prelude.{◌↔◌}
use Rattle.base64.specs.GeneralPurpose.{IsBytes}
use Rattle.base_types.proofs.Lists.{Contains-here, Contains-nil}
use Rattle.digest_mac.specs.Digests.{digits}
use Rattle.digest_mac.specs.Labels.{hmac_label}
use Rattle.digest_mac.specs.declared.hash.Hash.{Hash}
use Rattle.key_device.specs.declared.keys.KeyName.{KeyName}
use Rattle.key_device.specs.Devices.{Acceptance}
use Rattle.nquads.specs.Terms.{Blank, Statement}
use Rattle.nquads.specs.Renaming.{StandsIn, same_blank}
use Rattle.nquads.proofs.ReadingElements.{AllDiffer-nil}
use Rattle.rdfc_ndegree.specs.Datasets.{nodes_of}
use Rattle.rdfc_ndegree.specs.Issuers.{number}
use Rattle.rdfc_ndegree.proofs.Exists.{run-exists}
use Rattle.rdfc_ndegree.proofs.Labels.{issuer-only}
use Rattle.rdfc_ndegree.proofs.Lawful.{blanks-all, nodes-lawful, same_blank-equal}
use Rattle.stmt_groups.specs.declared.types.BaseRecord.{BaseRecord}
use Rattle.stmt_groups.specs.ByHash.{IsCoveredBy, IsGoodBy, NamesOneBy}
use Rattle.stmt_groups.specs.Datasets.{IsLabelled, LabelledDataset}
use Rattle.stmt_groups.specs.Issues.{IsIssueRecord, IsLabelledByRun, canonical_label}
use Rattle.stmt_groups.specs.LabelMaps.{AreNumbered, DerivedProofValue, HoldsUnder, IsGoodValue, LabelEntry, NumberedDataset, labelled_by, renaming_by, value_data}
use Rattle.stmt_groups.specs.Proofs.{DerivedProof}
use Rattle.stmt_groups.specs.Records.{IsRecord}
use Rattle.stmt_groups.proofs.HashNaming.{covered_by_names_one}
use Rattle.stmt_groups.proofs.MapLemmas.{makes_renaming}

-- ---- without blank nodes

no_label : (hash : Hash) (label_for : ℕ → List ℕ) (d : LabelledDataset) → ((b : Blank) → StandsIn d.statements b → ⊥) → IsLabelledByRun hash label_for d
no_label hash label_for d none =
    let r = run-exists (nodes-lawful (digits hash) d.statements) in
    record { run = r.0; is_run = r.1; labels = λ b c. absurd (none b c) }

-- a record is that of an issue under any secret
pub issue_without_blanks : (secret : List ℕ) (document options : LabelledDataset) (mandatory : List Statement) (r : BaseRecord) → ((b : Blank) → StandsIn document.statements b → ⊥) → ((b : Blank) → StandsIn options.statements b → ⊥) → IsRecord document options mandatory r → IsIssueRecord secret document options mandatory r
issue_without_blanks secret document options mandatory r none no_option made = record {
  document_labels = no_label r.hash (hmac_label r.hash secret) document none;
  options_labels = no_label r.hash canonical_label options no_option;
  is_record = made;
}

-- a good proof is a good value with the empty label map
pub value_without_blanks : (hash : Hash) (accepts : Acceptance) (issuer : KeyName) (q : List Statement) (options : LabelledDataset) (proof : DerivedProof)
    → IsGoodBy hash accepts (record { issuer = issuer; document = labelled_by [] q; options = options; proof = proof })
    ↔ IsGoodValue accepts issuer (record { statements = q; hash = hash; numbered = [] }) options (record { hash = hash; labels = []; proof = proof })
value_without_blanks hash accepts issuer q options proof = (
  λ g. record {
    hash_is = refl;
    labels_are = record { names = λ n. (λ c. absurd (Contains-nil n c), λ l. absurd (omega arith)); once = AllDiffer-nil; one_to_one = AllDiffer-nil };
    good = g;
  },
  λ g. g.good,
)

-- ---- with one blank node

-- in an issuer of this blank node alone its number is 0
only_number : (hash : Hash) (q : List Statement) (b : Blank) (issuer : List Blank) → ((a : Blank) → Contains issuer a → a ≡ b) → number (nodes_of (digits hash) q) issuer b ≡ 0
only_number hash q b [] only = refl
only_number hash q b (a ∷ issuer) only =
    let same : same_blank a b ≡ true = (same_blank-equal a b).1 (only a (Contains-here a issuer)) in
    ap (λ (t : Bool). if t then 0 else 1 + number (nodes_of (digits hash) q) issuer b) same

-- its label is that for the number 0
label_of_only : (hash : Hash) (label_for : ℕ → List ℕ) (d : LabelledDataset) (b : Blank) → IsLabelledByRun hash label_for d → StandsIn d.statements b → ((a : Blank) → StandsIn d.statements a → a ≡ b) → d.label b ≡ label_for 0
label_of_only hash label_for d b l stands only =
    let lawful = nodes-lawful (digits hash) d.statements in
    let zero_is = only_number hash d.statements b l.run.issuer (λ a c. only a ((blanks-all d.statements a).1 (issuer-only lawful l.run a l.is_run c))) in
    l.labels b stands ∙ ap label_for zero_is

-- in the document of an issue it is the label under the secret
pub document_label : (secret : List ℕ) (document options : LabelledDataset) (mandatory : List Statement) (r : BaseRecord) (b : Blank) → IsIssueRecord secret document options mandatory r → StandsIn document.statements b → ((a : Blank) → StandsIn document.statements a → a ≡ b) → document.label b ≡ hmac_label r.hash secret 0
document_label secret document options mandatory r b made = label_of_only r.hash (hmac_label r.hash secret) document b made.document_labels

first_identifier : canonical_label 0 ≡ codes "c14n0"
unfolding decimal_digits
first_identifier = refl

-- and in its options the canonical one
pub options_label : (secret : List ℕ) (document options : LabelledDataset) (mandatory : List Statement) (r : BaseRecord) (b : Blank) → IsIssueRecord secret document options mandatory r → StandsIn options.statements b → ((a : Blank) → StandsIn options.statements a → a ≡ b) → options.label b ≡ codes "c14n0"
options_label secret document options mandatory r b made stands only = label_of_only r.hash canonical_label options b made.options_labels stands only ∙ first_identifier

-- ---- a good value

-- it names one record, which holds under the renaming that the label map makes
pub value_names_one : (history : List BaseRecord) (accepts : Acceptance) (issuer : KeyName) (document : NumberedDataset) (options : LabelledDataset) (value : DerivedProofValue) → AreNumbered document.statements document.numbered → All (λ (e : LabelEntry). IsBytes e.digest) value.labels
    → IsLabelled (labelled_by (renaming_by document.numbered value.labels) document.statements) → IsLabelled options → IsGoodValue accepts issuer document options value → IsCoveredBy value.hash history accepts (value_data issuer document options value)
    → (n : NamesOneBy value.hash history (value_data issuer document options value)) × HoldsUnder n.one (renaming_by document.numbered value.labels) document.statements options.statements value.proof.indexes
value_names_one history accepts issuer document options value are bytes labelled options_labelled good covered =
    let n = covered_by_names_one value.hash history accepts (value_data issuer document options value) good.good covered labelled options_labelled in
    let renaming = makes_renaming document.statements document.numbered value.labels are good.labels_are bytes in
    (n, record { renaming = renaming.0; names = renaming.1; options_label = options.label; holds = n.holds })
