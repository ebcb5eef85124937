use Rattle.std.proofs.Common.{◌≡◌, ◌++◌, map, take}
use Rattle.std.specs.Prelude.{string_bytes}
use Rattle.std.specs.Str.{encode_utf8_all}
use Rattle.jsx_draw.specs.Grid.{run_of}
use Rattle.jsx_emit.specs.Texts.{run_chars}
use Rattle.jsx_emit.proofs.page.rows.push_runs.Given as goal

abbrev pub invariant-loop-run : goal.invariant-loop-run
invariant-loop-run l = string_bytes l.text ≡ string_bytes l.fn.text ++ encode_utf8_all (run_chars (take l.run-index (map run_of l.runs)))
