use Rattle.std.proofs.Common.{◌≡◌, drop}
use Rattle.rdfc_ndegree.specs.Internal.Issuing.{issue_numbers}
use Rattle.rdfc_ndegree.proofs.blank_nodes.issue_all.Given as goal

abbrev pub invariant-loop-number : goal.invariant-loop-number
invariant-loop-number l = issue_numbers l.initial.issuer l.numbers ≡ issue_numbers l.issuer (drop l.number-index l.numbers)
