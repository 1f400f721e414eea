use Rattle.std.proofs.Common.{◌≡◌, map, take, Some}
use Rattle.pointer_select.specs.Naming.{place_of}
use Rattle.pointer_select.proofs.naming.places_of.Given as goal

-- the pointers so far name the places so far
abbrev pub invariant-loop-index : goal.invariant-loop-index
invariant-loop-index l = map (λ tokens. place_of tokens l.tree) (take l.index l.pointers) ≡ map Some (map (λ place. place.steps) l.places.items)
