-- What a source and a sink mean: the bytes that a source still gives, those that a sink has taken,
-- and how often either failed. An object tells its bytes (`Some`) or does not (`None`); of bytes
-- that are not told nothing is claimed.
use Rattle.std.specs.Prelude.{◌≡◌, ℕ, ◌<◌, List, [], length, take, drop, Option, Some, IfSome}
use Rattle.std.specs.Io.KnownBytes.{Appends, Consumes}

-- the bytes that a source will still give, where it tells them, and how often it failed
pub record SourceMeaning : Type 0 where
  pub left : Option (List ℕ)
  pub faults : ℕ

-- the bytes that a sink took so far, where it tells them, and how often it failed
pub record SinkMeaning : Type 0 where
  pub written : Option (List ℕ)
  pub faults : ℕ

-- the source gave these bytes: they are the first of those that were left, and the rest is left
abbrev pub Gave : SourceMeaning → SourceMeaning → List ℕ → Type 0
Gave before after bytes = Consumes before.left after.left bytes

-- the source gave its first n bytes, and the rest is left
abbrev pub GaveFirst : ℕ → SourceMeaning → SourceMeaning → Type 0
GaveFirst n before after = IfSome before.left (λ left. after.left ≡ Some (drop n left))

-- the source gave all that was left, and says so
abbrev pub GaveAll : SourceMeaning → SourceMeaning → Type 0
GaveAll before after = IfSome before.left (λ left. after.left ≡ Some [])

-- these bytes are all that were left
abbrev pub IsAllOf : SourceMeaning → List ℕ → Type 0
IsAllOf before bytes = IfSome before.left (λ left. bytes ≡ left)

-- more than max bytes were left
abbrev pub IsMoreThan : ℕ → SourceMeaning → Type 0
IsMoreThan max before = IfSome before.left (λ left. max < length left)

-- the sink took exactly these bytes, behind those that it had
abbrev pub Wrote : SinkMeaning → SinkMeaning → List ℕ → Type 0
Wrote before after bytes = Appends before.written after.written bytes

-- the sink took some first part of these bytes, perhaps none, and nothing else
abbrev pub WrotePrefix : SinkMeaning → SinkMeaning → List ℕ → Type 0
WrotePrefix before after bytes = (n : ℕ) × Wrote before after (take n bytes)
