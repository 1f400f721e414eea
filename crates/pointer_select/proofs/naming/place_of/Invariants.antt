use Rattle.std.proofs.Common.{◌≡◌, true, drop}
use Rattle.json_tree.specs.Trees.{is_lawful}
use Rattle.pointer_select.specs.Naming.{place_of}
use Rattle.pointer_select.proofs.Names.{from_here}
use Rattle.pointer_select.proofs.naming.place_of.Given as goal

-- the way so far, and where the other tokens lead from here
abbrev pub invariant-loop-token : goal.invariant-loop-token
invariant-loop-token l = record {
  further : place_of l.pointer l.tree ≡ from_here l.place.steps (place_of (drop l.token-index l.pointer) l.here);
  lawful : is_lawful l.here ≡ true;
}
