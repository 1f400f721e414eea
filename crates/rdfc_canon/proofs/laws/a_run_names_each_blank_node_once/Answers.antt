use Rattle.rdfc_ndegree.proofs.Labels.{issuer-covers, issuer-differs, issuer-only}
use Rattle.rdfc_ndegree.proofs.Lawful.{blanks-all, nodes-lawful}
use Rattle.rdfc_canon.proofs.laws.a_run_names_each_blank_node_once.Goals as goal

pub returns-clause-each : goal.returns-clause-each
returns-clause-each c = λ digest q r b x. (
  λ h. issuer-covers (nodes-lawful digest q) r b x ((blanks-all q b).0 h),
  λ h. (blanks-all q b).1 (issuer-only (nodes-lawful digest q) r b x h),
)

pub returns-clause-once : goal.returns-clause-once
returns-clause-once c = λ digest q r x. issuer-differs (nodes-lawful digest q) r x
