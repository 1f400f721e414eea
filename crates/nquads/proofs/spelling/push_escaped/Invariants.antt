use Rattle.std.proofs.Common.{◌≡◌, ◌++◌}
use Rattle.std.specs.List.{flat_map}
use Rattle.std.specs.Str.Iter.{chars_rest}
use Rattle.nquads.specs.Spelling.{escape}
use Rattle.nquads.proofs.spelling.push_escaped.Given as goal

-- what is written, and what the rest will give
abbrev pub invariant-loop-character : goal.invariant-loop-character
invariant-loop-character l = l.out ++ flat_map escape (chars_rest l.character-iterator) ≡ l.initial.out ++ flat_map escape l.text
