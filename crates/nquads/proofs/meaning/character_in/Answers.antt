use Rattle.std.proofs.Common.{refl}
use Rattle.nquads.proofs.MeaningLemmas.{first_of_chars, slash_first, slash_shorter, other_first}
use Rattle.nquads.proofs.meaning.character_in.Goals as goal

pub returns-then-character-eq92-clause-means : goal.returns-then-character-eq92-clause-means
returns-then-character-eq92-clause-means c =
    slash_first c.args.quoted c.args.text.now c.as_str-rest.result.now c.escape_in.result
    (first_of_chars c.args.text.now c.chars-chars.result.rest.now c.next.new.self.rest.now c.as_str-rest.result.now c.in_ok-character.character 92 c.chars-chars.ensures.rest c.in_ok-character.ensures.steps.0 c.as_str-rest.ensures c.if-character-eq92.true)
    c.escape_in.ensures

pub returns-then-character-eq92-clause-shorter : goal.returns-then-character-eq92-clause-shorter
returns-then-character-eq92-clause-shorter c =
    slash_shorter c.args.quoted c.args.text.now c.as_str-rest.result.now c.escape_in.result
    (first_of_chars c.args.text.now c.chars-chars.result.rest.now c.next.new.self.rest.now c.as_str-rest.result.now c.in_ok-character.character 92 c.chars-chars.ensures.rest c.in_ok-character.ensures.steps.0 c.as_str-rest.ensures c.if-character-eq92.true)
    c.escape_in.ensures

pub returns-clause-means : goal.returns-clause-means
returns-clause-means c =
    other_first c.args.quoted c.in_ok-character.character c.args.text.now c.as_str-rest.result.now c.if-character-eq92.false c.if-character-eq34.false
    (first_of_chars c.args.text.now c.chars-chars.result.rest.now c.next.new.self.rest.now c.as_str-rest.result.now c.in_ok-character.character c.in_ok-character.character c.chars-chars.ensures.rest c.in_ok-character.ensures.steps.0 c.as_str-rest.ensures refl)
