use Rattle.std.proofs.Common.{map}
use Rattle.std.specs.Prelude.{string_bytes}
use Rattle.jsx_diag.specs.Data.{suggestion_of}
use Rattle.jsx_diag.specs.Splice.{spliced_data}
use Rattle.jsx_emit.proofs.Ways.{suggestion_part}
use Rattle.jsx_emit.proofs.page.suggestions.suggestion_text.Goals as goal

pub returns : goal.returns
returns g c =
    suggestion_part c.args.look.ui_testing (g.M.SourceMapper.files c.args.cm.now) c.args.width (suggestion_of c.args.it.now) (map spliced_data c.in_ok-ways.ways.items) c.in_ok-buffer.buffer c.draw_ways.new.buffer (string_bytes c.new-text.result) (string_bytes c.push_rows.new.text)
    (rw c.as_str.ensures.value at c.in_ok-buffer.ensures) c.in_ok-ways.ensures (rw c.deref.ensures.value at c.in_ok-draw_ways.ensures) c.new-text.ensures.bytes c.in_ok-push_rows.ensures.added
