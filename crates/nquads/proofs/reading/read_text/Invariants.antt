use Rattle.std.proofs.Common.{length}
use Rattle.term_store.specs.Store.{Grows}
use Rattle.nquads.proofs.HasRead.{HasRead}
use Rattle.nquads.proofs.reading.read_text.Given as goal

-- the lines before the rest were read
abbrev pub invariant-loop-kept : goal.invariant-loop-kept
invariant-loop-kept l = Grows l.initial.terms l.terms × HasRead l.bytes l.rest l.terms l.quads.items

abbrev pub decreases-loop-kept : goal.decreases-loop-kept
decreases-loop-kept l = length l.rest
