-- What canonicalization answers. RDF Canonicalization, 4.4.
use Rattle.std.specs.Prelude.{◌≡◌, ◌≤◌, ◌↔◌, ℕ, List, ◌++◌, map, length, codes, decimal, Contains}
use Rattle.base_types.specs.Sets.{AllDiffer}
use Rattle.digest_mac.specs.Digests.{digits}
use Rattle.digest_mac.specs.declared.hash.Hash.{Hash}
use Rattle.nquads.specs.Terms.{Blank, Statement}
use Rattle.nquads.specs.Renaming.{StandsIn}
use Rattle.nquads.specs.Spelling.{blank_text}
use Rattle.nquads.specs.Lines.{canonical_lines}
use Rattle.nquads.specs.Texts.{label}
use Rattle.nquads.specs.Stored.{labels_by_text}
use Rattle.nquads.specs.declared.labels.TextLabel.{TextLabel}
use Rattle.rdfc_ndegree.specs.Nodes.{Nodes}
use Rattle.rdfc_ndegree.specs.Issuers.{canonical_id}
use Rattle.rdfc_ndegree.specs.Datasets.{nodes_of}
use Rattle.rdfc_ndegree.specs.Table.{numbers_below}
use Rattle.rdfc_ndegree.specs.declared.limits.Limits.{Limits}
use Rattle.rdfc_canon.specs.declared.canon.Canon.{Canon}
pub use Rattle.rdfc_ndegree.specs.Run.{RunOutcome, IsRun, MeetsTie, WorkOver, IsWithinWork, IsCanonicalIssuer}

-- the blank nodes of a dataset, with this hash algorithm. -- RDF Canonicalization, 4.3
abbrev pub nodes : Hash → List Statement → Nodes Blank
nodes hash q = nodes_of (digits hash) q

-- the labels that a canonical issuer gives, in its order
abbrev pub canonical_labels : Hash → List Statement → List Blank → List TextLabel
canonical_labels hash q c = map (λ b. label (blank_text b) (canonical_id (nodes hash q) c b)) c

-- the identifiers c14n0, c14n1 and so on, this many
abbrev pub canonical_ids : ℕ → List (List ℕ)
canonical_ids n = map (λ k. codes "c14n" ++ decimal k) (numbers_below n)

-- The labels name each blank node of the dataset once, and are c14n0, c14n1 and so on, in this
-- order.
pub record NameAll (q : List Statement) (labels : List TextLabel) : Type 0 where
  pub each : (b : Blank)
      → StandsIn q b ↔ Contains (map (λ (l : TextLabel). l.blank) labels) (blank_text b)
  pub once : AllDiffer (map (λ (l : TextLabel). l.blank) labels)
  pub numbered : map (λ (l : TextLabel). l.text) labels ≡ canonical_ids (length labels)

-- The labels, with the texts of the store, the tie and the work are those of one run, its work is
-- not over the limit, and the lines are those of the dataset under its labels, in code-point order.
pub record AnswersRun (hash : Hash) (texts : List (List ℕ)) (q : List Statement) (limits : Limits)
    (c : Canon) : Type 0 where
  pub run : RunOutcome Blank
  pub is_run : IsRun (nodes hash q) run
  pub labels_are : labels_by_text texts c.labels ≡ canonical_labels hash q run.issuer
  pub lines_are : c.lines ≡ canonical_lines (canonical_id (nodes hash q) run.issuer) q
  pub tie_is : c.tie ≡ run.tie
  pub work_is : c.work ≡ run.work
  pub within_work : run.work ≤ limits.work
