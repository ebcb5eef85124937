use Rattle.std.specs.Prelude.{string_bytes}
use Rattle.jsx_emit.proofs.LineRows.{bar_row_if}
use Rattle.jsx_emit.proofs.page.part.push_bar_row.Goals as goal

pub returns : goal.returns
returns c = bar_row_if c.args.width (string_bytes c.args.text.now) (string_bytes c.push_blanks.new.text) (string_bytes c.push_row.new.text) c.push_row.result c.in_ok-push_blanks.ensures c.push_row.ensures
