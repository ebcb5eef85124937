use Rattle.std.specs.Str.{chars}
use Rattle.jsx_emit.proofs.Ways.{row_of_two}
use Rattle.jsx_emit.proofs.page.suggestions.draw_row.Goals as goal

pub returns : goal.returns
returns c = row_of_two c.num_lines-row.result (chars c.args.before.now) (chars c.args.line.now) c.args.buffer.now c.prepend.new.self c.prepend-2.new.self c.prepend-2.result c.num_lines-row.ensures c.in_ok-prepend.ensures.put c.prepend-2.ensures.put
