use Rattle.std.proofs.Common.{◌-◌}
use Rattle.std.specs.Prelude.{slice_get, string_bytes}
use Rattle.std.specs.Str.{chars}
use Rattle.jsx_base.specs.Lines.{lines}
use Rattle.jsx_emit.proofs.LineRows.{no_line}
use Rattle.jsx_emit.proofs.page.lines.source_of.Goals as goal

pub returns-in-None : goal.returns-in-None
returns-in-None c = no_line (slice_get (lines (chars (string_bytes c.args.at.file.now.value.src))) (c.args.at.line - 1)) (rw (c.deref.ensures, c.saturating_sub.ensures) at c.in-None.ensures)
