use Rattle.std.proofs.Common.{◌≡◌, drop}
use Rattle.rdfc_canon.specs.Internal.Numbering.{issue_paths}
use Rattle.rdfc_canon.proofs.naming.issue_paths.Given as goal

abbrev pub invariant-loop-path : goal.invariant-loop-path
invariant-loop-path l = issue_paths l.initial.canonical l.paths ≡ issue_paths l.canonical (drop l.path-index l.paths)
