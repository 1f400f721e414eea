use Rattle.std.proofs.Common.{◌≡◌, ◌++◌, take}
use Rattle.json_tree.proofs.place.append.Given as goal

-- the steps that were there, and those that were passed
abbrev pub invariant-loop-step : goal.invariant-loop-step
invariant-loop-step l = l.steps ≡ l.initial.steps ++ take l.step-index l.more
