use Rattle.jsx_emit.proofs.Ways.{help_line, help_more}
use Rattle.jsx_emit.proofs.page.suggestions.help_buffer.Goals as goal

pub returns-in_default : goal.returns-in_default
returns-in_default c = help_line c.args.width c.args.msg.now c.new-buffer.result c.draw_row.new.buffer c.in_default.ensures c.new-buffer.ensures c.in_ok-draw_row.ensures

pub returns : goal.returns
returns c = help_more c.args.width c.args.msg.now c.in-Some.line.now c.in-Some.rest.now c.new-buffer.result c.draw_row-2.new.buffer c.draw_further.new.buffer c.in-Some.ensures c.new-buffer.ensures c.in_ok-draw_row-2.ensures c.in_ok-draw_further.ensures
