use Rattle.std.proofs.Common.{◌≡◌, take}
use Rattle.std.specs.Prelude.{All}
use Rattle.stmt_groups.specs.Parts.{marked_quads, parts_of}
use Rattle.stmt_groups.specs.Internal.Marking.{IsMarkIn}
use Rattle.stmt_groups.proofs.marking.marks_of.Given as goal

abbrev pub invariant-loop-quad : goal.invariant-loop-quad
invariant-loop-quad l = record {
  quads : marked_quads l.marks.items ≡ take l.quad-index l.quads;
  says : All (IsMarkIn (parts_of l.quads l.mandatory l.chosen)) l.marks.items;
}
