use Rattle.std.proofs.Common.{◌≡◌, map, take}
use Rattle.pointer_select.specs.Internal.Parts.{slices}
use Rattle.pointer_select.proofs.selecting.slices_of.Given as goal

-- the places so far
abbrev pub invariant-loop-place : goal.invariant-loop-place
invariant-loop-place l = slices l.all.items ≡ map (λ place. place.steps) (take l.place-index l.places)
