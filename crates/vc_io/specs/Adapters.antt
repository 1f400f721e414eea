-- What a clause reads of the adapters of std's readers and writers.
use Rattle.std.specs.Prelude.{ℕ, List, Option}
use Rattle.vc_io.specs.Bytes.{SourceMeaning, SinkMeaning}
use Rattle.vc_io.specs.declared.reader_source.ReaderSource.{ReaderSource}
use Rattle.vc_io.specs.declared.writer_sink.WriterSink.{WriterSink}

-- the reader that a source reads from
abbrev pub reader_of : {R : Type 0} → ReaderSource R → R
reader_of s = s.reader

-- how often a source's reader answered an error
abbrev pub read_faults : {R : Type 0} → ReaderSource R → ℕ
read_faults s = s.count

-- what a source means, where its reader has these bytes left
abbrev pub reader_meaning : {R : Type 0} → (R → Option (List ℕ)) → ReaderSource R → SourceMeaning
reader_meaning remaining s = record { left = remaining (reader_of s); faults = read_faults s }

-- the writer that a sink writes to
abbrev pub writer_of : {W : Type 0} → WriterSink W → W
writer_of s = s.writer

-- how often a sink's writer answered an error, or took nothing of a piece that is not empty
abbrev pub write_faults : {W : Type 0} → WriterSink W → ℕ
write_faults s = s.count

-- what a sink means, where its writer holds these bytes
abbrev pub writer_meaning : {W : Type 0} → (W → Option (List ℕ)) → WriterSink W → SinkMeaning
writer_meaning contents s = record { written = contents (writer_of s); faults = write_faults s }
