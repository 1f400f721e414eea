use Rattle.std.proofs.Common.{◌≡◌, true, drop}
use Rattle.json_tree.specs.Trees.{is_lawful}
use Rattle.json_tree.specs.Places.{look}
use Rattle.json_tree.proofs.looking.look.Given as goal

-- the rest of the steps lead from here to what all lead to
abbrev pub invariant-loop-step : goal.invariant-loop-step
invariant-loop-step l = record {
  further : look l.steps l.tree ≡ look (drop l.step-index l.steps) l.here;
  lawful : is_lawful l.here ≡ true;
}
