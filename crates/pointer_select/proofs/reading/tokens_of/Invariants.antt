use Rattle.std.proofs.Common.{◌≡◌, [], false}
use Rattle.std.specs.Str.Iter.{chars_rest}
use Rattle.pointer_select.specs.Internal.Reading.{tokens_from, tokens_with}
use Rattle.pointer_select.proofs.reading.tokens_of.Given as goal

-- what was read, and the rest, give what the whole gives
abbrev pub invariant-loop-character : goal.invariant-loop-character
invariant-loop-character l = tokens_with l.reading (chars_rest l.character-iterator) ≡ tokens_from false [] l.text
