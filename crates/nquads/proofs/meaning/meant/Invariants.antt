use Rattle.std.proofs.Common.{◌≡◌, ◌++◌, length, option_map}
use denote.Text.{Utf8}
use denote.Shadow.{shadow}
use Rattle.nquads.specs.Internal.Meaning.{meant}
use Rattle.nquads.proofs.meaning.meant.Given as goal

-- what the rest means stands behind what was read
abbrev pub invariant-loop-rest : goal.invariant-loop-rest
invariant-loop-rest l =
    shadow (Utf8 l.rest) × (meant l.quoted l.written ≡ option_map (λ t. l.out ++ t) (meant l.quoted l.rest))

abbrev pub decreases-loop-rest : goal.decreases-loop-rest
decreases-loop-rest l = length l.rest
