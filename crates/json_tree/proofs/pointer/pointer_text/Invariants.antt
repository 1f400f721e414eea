use Rattle.std.proofs.Common.{◌≡◌, ◌++◌, drop}
use Rattle.json_tree.specs.Places.{pointer_of}
use Rattle.json_tree.proofs.pointer.pointer_text.Given as goal

-- what is written, and what the rest will give
abbrev pub invariant-loop-step : goal.invariant-loop-step
invariant-loop-step l = pointer_of l.place.steps ≡ l.out ++ pointer_of (drop l.step-index l.place.steps)
