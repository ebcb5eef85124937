use Rattle.std.proofs.Common.{◌≡◌, ◌++◌, length}
use Rattle.std.specs.Prelude.{string_bytes}
use Rattle.jsx_base.specs.SourceFile.{shared_file}
use Rattle.jsx_emit.specs.Sheets.{line_blocks}
use Rattle.jsx_emit.specs.Page.{rows_text}
use Rattle.jsx_emit.specs.Views.{sheet_of}
use Rattle.jsx_emit.proofs.page.lines.push_lines.Given as goal

abbrev pub invariant-loop-line : goal.invariant-loop-line
invariant-loop-line l = record { so : string_bytes l.text ++ rows_text (line_blocks (sheet_of l.sheet) (shared_file l.file) l.left) ≡ string_bytes l.fn.text ++ rows_text (line_blocks (sheet_of l.fn.sheet) (shared_file l.fn.file) l.fn.lines) }

abbrev pub decreases-loop-line : goal.decreases-loop-line
decreases-loop-line l = length l.left
