use Rattle.std.proofs.Common.{subst}
use Rattle.rdfc_ndegree.specs.Table.{IsClosed}
use Rattle.rdfc_ndegree.proofs.table.NodeTable.len.Goals as goal

pub returns-clause-closed : goal.returns-clause-closed
returns-clause-closed c = subst IsClosed c.self.view_is c.self.invariant.0
