use Rattle.std.proofs.Common.{◌∙◌, ap, sym}
use Rattle.nquads.specs.Lines.{canonical_text}
use Rattle.rdfc_ndegree.specs.Issuers.{canonical_id}
use Rattle.rdfc_ndegree.specs.Datasets.{nodes_of}
use Rattle.rdfc_ndegree.proofs.Renamed.{Same-HasLabels, Same-MeetsTie, Same-WorkOver, Same-canonical_text}
use Rattle.rdfc_ndegree.proofs.RunAgree.{labels-unique}
use Rattle.rdfc_canon.proofs.laws.names_do_not_matter.Goals as goal

pub returns-clause-ties : goal.returns-clause-ties
returns-clause-ties c = λ digest q p s i j. Same-MeetsTie digest q p s i j

pub returns-clause-work : goal.returns-clause-work
returns-clause-work c = λ digest q p n s i j. Same-WorkOver digest q p s i j n

pub returns-clause-labels : goal.returns-clause-labels
returns-clause-labels c = λ digest q p s l i j h. Same-HasLabels digest q p s i j l h

pub returns-clause-text : goal.returns-clause-text
returns-clause-text c = λ digest q p l m s i j h k.
    sym (Same-canonical_text digest q p s i j l h)
    ∙ ap (λ e. canonical_text (canonical_id (nodes_of digest p) e) p) (labels-unique (Same-HasLabels digest q p s i j l h) k)
