use Rattle.std.proofs.Common.{◌++◌, List, length}
use Rattle.digest_mac.specs.Digests.{digits}
use Rattle.nquads.specs.declared.hashes.BlankHash.{BlankHash}
use Rattle.rdfc_first.specs.Internal.Grouping.{AreHashesOf, InBlankOrder}
use Rattle.rdfc_first.proofs.grouping.hashes_of.Given as goal

abbrev pub invariant-loop-first : goal.invariant-loop-first
invariant-loop-first l =
    ((hs : List BlankHash) → AreHashesOf (digits l.hash) l.rest hs → AreHashesOf (digits l.hash) l.lines (l.hashes.items ++ hs)) × InBlankOrder l.rest

abbrev pub decreases-loop-first : goal.decreases-loop-first
decreases-loop-first l = length l.rest
