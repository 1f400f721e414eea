use Rattle.std.proofs.Common.{drop}
use Rattle.rdfc_canon.proofs.Runs.{InRunLoop}
use Rattle.rdfc_canon.proofs.numbering.run.Given as goal

abbrev pub invariant-loop-group : goal.invariant-loop-group
invariant-loop-group l = InRunLoop l.hash l.table l.canonical l.tie (drop l.group-index l.group-items) l.initial.meter l.meter
