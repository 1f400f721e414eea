use Rattle.std.proofs.Common.{List, drop}
use Rattle.digest_mac.specs.declared.hash.Hash.{Hash}
use Rattle.rdfc_ndegree.proofs.Walks.{FirstPass}
use Rattle.rdfc_ndegree.specs.Table.{NodeRow}
use Rattle.rdfc_ndegree.proofs.walk.walk_over.Given as goal

abbrev pub invariant-loop-member : goal.invariant-loop-member
invariant-loop-member l = (algorithm : Hash) (rows : List NodeRow) → FirstPass algorithm rows l.canonical l.fn.issuer l.members l.path.items l.issuer l.recursion_list.items (drop l.member-index l.members)
