use Rattle.std.proofs.Common.{◌≡◌, drop}
use Rattle.nquads.specs.Internal.Meaning.{is_language, language_rest}
use Rattle.nquads.proofs.grammar.is_language.Given as goal

-- the rest of the text decides
abbrev pub invariant-loop-byte : goal.invariant-loop-byte
invariant-loop-byte l = is_language l.text ≡ language_rest l.first l.begun (drop l.byte-index l.bytes)
