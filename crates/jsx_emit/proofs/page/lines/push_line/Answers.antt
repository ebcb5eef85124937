use Rattle.std.specs.Prelude.{string_bytes}
use Rattle.std.specs.Str.{chars}
use Rattle.std.proofs.lemmas.Str.{IsUtf8-string_bytes}
use Rattle.jsx_emit.specs.Page.{line_chars}
use Rattle.jsx_draw.specs.Views.{shown_line}
use Rattle.jsx_emit.proofs.LineRows.{line_row_if}
use Rattle.jsx_emit.proofs.page.lines.push_line.Goals as goal

pub returns : goal.returns
returns c = line_row_if c.args.sheet.look.ui_testing c.args.sheet.width c.args.sheet.depth c.args.slash c.args.at.line c.args.bars.now (line_chars (shown_line c.args.at).file c.args.at.line) (chars c.source_of-source.result.now) (string_bytes c.in_ok-front.front) (string_bytes c.push_gutter.new.text) (string_bytes c.args.text.now) (string_bytes c.push_row.new.text) c.push_row.result c.source_of-source.ensures (IsUtf8-string_bytes c.push_gutter.new.text) c.in_ok-front.ensures c.in_ok-push_gutter.ensures (rw c.as_str.ensures.value at c.push_row.ensures)
