-- What a sink over a writer keeps.
use Rattle.std.specs.Prelude.{ℕ}
use Rattle.fsw_outside.specs.declared.std_sink.StdSink.{StdSink}

-- The writer.
abbrev pub writer_of : {W : Type 0} → StdSink W → W
writer_of sink = sink.writer

-- How often the sink has failed.
abbrev pub fault_count : {W : Type 0} → StdSink W → ℕ
fault_count sink = sink.faults
