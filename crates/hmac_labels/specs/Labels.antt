-- What labels by a keyed digest are for the canonical labels of a dataset.
use Rattle.std.specs.Prelude.{◌≡◌, ℕ, List, map, length}
use Rattle.base_types.specs.Sets.{AllDiffer}
use Rattle.digest_mac.specs.Labels.{hmac_digest, hmac_label}
use Rattle.digest_mac.specs.declared.hash.Hash.{Hash}
use Rattle.nquads.specs.Terms.{Blank, Statement}
use Rattle.nquads.specs.Spelling.{blank_text}
use Rattle.nquads.specs.Texts.{label}
use Rattle.nquads.specs.declared.labels.TextLabel.{TextLabel}
use Rattle.nquads.specs.declared.numbers.Label.{Label}
use Rattle.rdfc_ndegree.specs.Issuers.{number}
use Rattle.rdfc_ndegree.specs.Table.{numbers_below}
use Rattle.rdfc_canon.specs.Canon.{nodes}
use Rattle.hmac_labels.specs.declared.labelling.HmacLabels.{HmacLabels}

-- The blank nodes are those of the canonical labels, in their order; each has the label of its
-- canonical number, and the digests stand by this number.
pub record AreHmacLabels (hash : Hash) (key : List ℕ) (canonical : List Label) (given : HmacLabels)
    : Type 0 where
  pub blanks : map (λ (l : Label). l.blank) given.labels ≡ map (λ (l : Label). l.blank) canonical
  pub texts : map (λ (l : Label). l.text) given.labels
      ≡ map (hmac_label hash key) (numbers_below (length canonical))
  pub digests : given.digests ≡ map (hmac_digest hash key) (numbers_below (length canonical))

-- No two blank nodes have one label, and no two numbers one digest.
pub record AreOneToOne (given : HmacLabels) : Type 0 where
  pub labels : AllDiffer (map (λ (l : Label). l.text) given.labels)
  pub digests : AllDiffer given.digests

-- the labels of a canonical issuer's blank nodes, in its order, each that of its number there
abbrev pub run_labels : Hash → List ℕ → List Statement → List Blank → List TextLabel
run_labels hash key q issuer =
    map (λ b. label (blank_text b) (hmac_label hash key (number (nodes hash q) issuer b))) issuer
