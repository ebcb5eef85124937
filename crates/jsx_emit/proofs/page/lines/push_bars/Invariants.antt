use Rattle.std.proofs.Common.{◌≡◌, ◌++◌}
use Rattle.std.specs.Prelude.{string_bytes}
use Rattle.jsx_emit.specs.Sheets.{bar_cells}
use Rattle.jsx_emit.proofs.page.lines.push_bars.Given as goal

abbrev pub invariant-loop-i : goal.invariant-loop-i
invariant-loop-i l = record { so : string_bytes l.text ≡ string_bytes l.fn.text ++ bar_cells l.bars l.slash l.i }
