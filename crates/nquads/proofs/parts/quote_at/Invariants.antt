use Rattle.std.proofs.Common.{◌≡◌, take, drop, false}
use Rattle.nquads.specs.Internal.Parsing.{cut_quoted}
use Rattle.nquads.proofs.PartTerms.{with_front}
use Rattle.nquads.proofs.parts.quote_at.Given as goal

-- the quote is looked for behind what was read
abbrev pub invariant-loop-at : goal.invariant-loop-at
invariant-loop-at l = cut_quoted false l.text ≡ with_front (take l.at l.text) (cut_quoted l.escaped (drop l.at l.text))
