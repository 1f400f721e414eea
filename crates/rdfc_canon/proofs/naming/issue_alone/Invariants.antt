use Rattle.std.proofs.Common.{◌≡◌, drop, map}
use Rattle.rdfc_ndegree.specs.Table.{group_in}
use Rattle.rdfc_ndegree.specs.Run.{alone}
use Rattle.rdfc_ndegree.specs.Internal.Issuing.{issue_numbers}
use Rattle.rdfc_canon.proofs.naming.issue_alone.Given as goal

abbrev pub invariant-loop-group : goal.invariant-loop-group
invariant-loop-group l = issue_numbers l.initial.canonical (alone (map group_in l.groups)) ≡ issue_numbers l.canonical (alone (map group_in (drop l.group-index l.groups)))
