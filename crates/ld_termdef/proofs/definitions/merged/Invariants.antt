use Rattle.std.proofs.Common.{◌≡◌, ◌+◌, ◌++◌, true, length}
use Rattle.ld_termdef.specs.Overlay.{terms_rise, overlay_of}
use Rattle.ld_termdef.proofs.definitions.merged.Given as goal

abbrev pub invariant-loop-made : goal.invariant-loop-made
invariant-loop-made l =
    (l.made ++ overlay_of l.upper l.lower ≡ overlay_of l.over l.under)
    × (terms_rise l.upper ≡ true) × (terms_rise l.lower ≡ true)

abbrev pub decreases-loop-made : goal.decreases-loop-made
decreases-loop-made l = length l.upper + length l.lower
