-- A source over bytes in memory and a sink into memory, which fail at chosen calls.
use Rattle.std.specs.Prelude.{ℕ, ◌-◌, ◌<◌, ◌≤◌, ◌⊎◌, min, max, List, [], ◌++◌, length, drop, Contains, Some}
use Rattle.base_types.specs.Counts.{one_more}
use Rattle.vc_io.specs.Bytes.{SourceMeaning, SinkMeaning}

-- how many bytes a call moves: as many as it can, at most a piece of at least one byte
abbrev pub moved_count : ℕ → ℕ → ℕ → ℕ
moved_count piece handed available = min (max 1 piece) (min handed available)

-- a source over bytes in memory: the bytes left, the most that a call gives (0 counts as 1), the
-- numbers from 1 of the calls that fail, the number of calls so far, and how many of them failed
pub record SourceState : Type 0 where
  pub left : List ℕ
  pub piece : ℕ
  pub fails : List ℕ
  pub calls : ℕ
  pub count : ℕ

-- a source that gives these bytes, called no time yet
abbrev pub uncalled_source : List ℕ → ℕ → List ℕ → SourceState
uncalled_source bytes piece fails =
    record { left = bytes; piece = piece; fails = fails; calls = 0; count = 0 }

-- what it means as a source: it tells its bytes
abbrev pub source_meaning : SourceState → SourceMeaning
source_meaning s = record { left = Some s.left; faults = s.count }

-- the next read fails
abbrev pub ReadFails : SourceState → Type 0
ReadFails s = Contains s.fails (one_more s.calls)

-- how many bytes a read into so much room gives
abbrev pub read_count : SourceState → ℕ → ℕ
read_count s room = moved_count s.piece room (length s.left)

-- the source after a read of n bytes
abbrev pub after_read : SourceState → ℕ → SourceState
after_read s n = record s { left = drop n s.left; calls = one_more s.calls }

-- the source after a read that failed
abbrev pub after_failed_read : SourceState → SourceState
after_failed_read s = record s { calls = one_more s.calls; count = one_more s.count }

-- a sink into memory: the bytes written, how many fit into it, the most that a call takes (0 counts
-- as 1), the numbers from 1 of the calls that fail, the number of calls so far, and how many failed
pub record SinkState : Type 0 where
  pub written : List ℕ
  pub room : ℕ
  pub piece : ℕ
  pub fails : List ℕ
  pub calls : ℕ
  pub count : ℕ

-- a sink with no bytes, called no time yet
abbrev pub empty_sink : ℕ → ℕ → List ℕ → SinkState
empty_sink room piece fails =
    record { written = []; room = room; piece = piece; fails = fails; calls = 0; count = 0 }

-- what it means as a sink: it tells its bytes
abbrev pub sink_meaning : SinkState → SinkMeaning
sink_meaning s = record { written = Some s.written; faults = s.count }

-- the next write of so many bytes fails: by its number, or since there are some and no room is left
abbrev pub WriteFails : SinkState → ℕ → Type 0
WriteFails s handed =
    Contains s.fails (one_more s.calls) ⊎ ((0 < handed) × (s.room ≤ length s.written))

-- how many of so many bytes a write takes
abbrev pub write_count : SinkState → ℕ → ℕ
write_count s handed = moved_count s.piece handed (s.room - length s.written)

-- the sink after a write that took these bytes
abbrev pub after_write : SinkState → List ℕ → SinkState
after_write s bytes = record s { written = s.written ++ bytes; calls = one_more s.calls }

-- the sink after a write that failed
abbrev pub after_failed_write : SinkState → SinkState
after_failed_write s = record s { calls = one_more s.calls; count = one_more s.count }
