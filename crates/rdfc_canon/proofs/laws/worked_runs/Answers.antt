use Rattle.rdfc_canon.proofs.WorkedRuns.{none-row, chain-row, twins-row, pair-row, row-row, triangle-row}
use Rattle.rdfc_canon.proofs.laws.worked_runs.Goals as goal

pub returns-clause-nothing : goal.returns-clause-nothing
returns-clause-nothing c = none-row

pub returns-clause-chain : goal.returns-clause-chain
returns-clause-chain c = chain-row

pub returns-clause-twins : goal.returns-clause-twins
returns-clause-twins c = twins-row

pub returns-clause-pair : goal.returns-clause-pair
returns-clause-pair c = pair-row

pub returns-clause-row : goal.returns-clause-row
returns-clause-row c = row-row

pub returns-clause-triangle : goal.returns-clause-triangle
returns-clause-triangle c = triangle-row
