use Rattle.std.proofs.Common.{◌≡◌, ◌++◌}
use Rattle.std.specs.List.{flat_map}
use Rattle.std.specs.Str.Iter.{chars_rest}
use Rattle.json_tree.specs.Places.{escaped}
use Rattle.json_tree.proofs.pointer.push_escaped.Given as goal

-- what is written, and what the rest will give
abbrev pub invariant-loop-character : goal.invariant-loop-character
invariant-loop-character l = l.out ++ flat_map escaped (chars_rest l.character-iterator) ≡ l.initial.out ++ flat_map escaped l.key
