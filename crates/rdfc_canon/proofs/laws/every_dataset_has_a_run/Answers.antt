use Rattle.rdfc_ndegree.proofs.Exists.{run-exists}
use Rattle.rdfc_ndegree.proofs.Lawful.{nodes-lawful}
use Rattle.rdfc_canon.proofs.laws.every_dataset_has_a_run.Goals as goal

pub returns : goal.returns
returns c = λ digest q. run-exists (nodes-lawful digest q)
