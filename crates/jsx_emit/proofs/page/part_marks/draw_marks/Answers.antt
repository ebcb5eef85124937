use Rattle.std.proofs.Common.{map}
use Rattle.jsx_diag.specs.Data.{edit_of}
use Rattle.jsx_emit.proofs.Marks.{marks_drawn_if}
use Rattle.jsx_emit.proofs.page.part_marks.draw_marks.Goals as goal

pub returns : goal.returns
returns g c = marks_drawn_if (g.M.SourceMapper.files c.args.cm.now) c.args.width c.args.row c.in_ok-sum.field-0 c.in_ok-sum-2.field-0 (map edit_of c.args.parts.now) c.args.buffer.now c.puts.new.self c.draw_parts.new.buffer c.draw_parts.result c.in_ok-sum.ensures c.in_ok-sum-2.ensures c.in_ok-puts.ensures.put c.draw_parts.ensures
