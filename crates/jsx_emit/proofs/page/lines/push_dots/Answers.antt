use Rattle.std.proofs.Common.{◌+◌, map}
use Rattle.std.specs.Prelude.{string_bytes}
use Rattle.jsx_draw.specs.Drawn.{bars_past}
use Rattle.jsx_draw.specs.Views.{shown_line, wide_of}
use Rattle.jsx_emit.proofs.LineRows.{dots_if}
use Rattle.jsx_emit.proofs.page.lines.push_dots.Goals as goal

pub returns : goal.returns
returns c = dots_if (c.args.sheet.width + 2) c.in_ok-sum.field-0 (bars_past (map wide_of c.args.sheet.wides.now) (shown_line c.args.at)) c.new-buffer.result c.puts.new.self c.draw_open.new.buffer (string_bytes c.args.text.now) (string_bytes c.push_rows.new.text) c.push_rows.result c.in_ok-sum.ensures c.new-buffer.ensures c.in_ok-puts.ensures.put (rw (c.deref.ensures.value, c.in_ok-bars.ensures) at c.in_ok-draw_open.ensures) c.push_rows.ensures.added
