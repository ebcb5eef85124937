-- A sink over a writer of std.
use Rattle.std.specs.Prelude.{ℕ}
use Rattle.jsx_base.specs.declared.sink.std_sink.StdSink.{StdSink}

-- the writer
abbrev pub writer : {W : Type 0} → StdSink W → W
writer sink = sink.inner

-- how many writes have failed, up to the greatest `u64`
abbrev pub failed_writes : {W : Type 0} → StdSink W → ℕ
failed_writes sink = sink.faults
