-- A source over a reader of std.
use Rattle.std.specs.Prelude.{ℕ}
use Rattle.jsx_base.specs.declared.source.std_source.StdSource.{StdSource}

-- the reader
abbrev pub reader : {R : Type 0} → StdSource R → R
reader source = source.inner

-- how many reads have failed, up to the greatest `u64`
abbrev pub failed_reads : {R : Type 0} → StdSource R → ℕ
failed_reads source = source.faults
