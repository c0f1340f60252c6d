-- A sink over a writer of the outside.
use Rattle.std.specs.Prelude.{ℕ}
use Rattle.desk_io.specs.declared.std_sink.StdSink.{StdSink}

-- the writer below
abbrev pub writer_of : {W : Type 0} → StdSink W → W
writer_of sink = sink.writer

-- how many writes have failed
abbrev pub write_faults : {W : Type 0} → StdSink W → ℕ
write_faults sink = sink.faults
