use Rattle.std.proofs.Common.{drop}
use Rattle.rdfc_canon.proofs.Hashings.{InHashLoop}
use Rattle.rdfc_canon.proofs.rounds.hash_members.Given as goal

abbrev pub invariant-loop-member : goal.invariant-loop-member
invariant-loop-member l = InHashLoop l.hash l.table l.canonical l.members l.paths.items (drop l.member-index l.members) l.initial.meter l.meter
