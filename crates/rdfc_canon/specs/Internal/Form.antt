-- What the labelling of a dataset answers, by cases on the outcome.
use Rattle.std.specs.Prelude.{◌≡◌, ◌↔◌, ℕ, List, true, false, Ok, Err, Result}
use Rattle.digest_mac.specs.declared.hash.Hash.{Hash}
use Rattle.nquads.specs.Terms.{Blank, Statement}
use Rattle.nquads.specs.Stored.{labels_by_text}
use Rattle.rdfc_ndegree.specs.Internal.Evaluations.{IsFaultOf}
use Rattle.rdfc_ndegree.specs.Run as run
use Rattle.rdfc_ndegree.specs.declared.limits.CanonFault.{CanonFault}
use Rattle.rdfc_ndegree.specs.declared.limits.Limits.{Limits}
use Rattle.rdfc_canon.specs.Canon.{nodes, canonical_labels, AnswersRun, NameAll}
use Rattle.rdfc_canon.specs.declared.canon.Canon.{Canon}

-- The labels, lines, tie and work are those of a run within the limit.
pub record IsCanon (hash : Hash) (texts : List (List ℕ)) (q : List Statement) (limits : Limits)
    (c : Canon) : Type 0 where
  pub answers : AnswersRun hash texts q limits c
  pub names : NameAll q (labels_by_text texts c.labels)
  pub tie : (c.tie ≡ true) ↔ run.MeetsTie (nodes hash q)
  pub every : c.tie ≡ false → (r : run.RunOutcome Blank) → run.IsRun (nodes hash q) r
      → labels_by_text texts c.labels ≡ canonical_labels hash q r.issuer

-- A fault that names a limit names the one that was given, and some run is over it.
abbrev pub Canonicalised :
    Hash → List (List ℕ) → List Statement → Limits → Result Canon CanonFault → Type 0
Canonicalised hash texts q limits (Ok c) = IsCanon hash texts q limits c
Canonicalised hash texts q limits (Err e) = IsFaultOf limits (run.WorkOver (nodes hash q)) e
