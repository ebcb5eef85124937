use Rattle.jsx_emit.proofs.Ways.{no_ways, some_ways_if}
use Rattle.jsx_emit.proofs.page.ways.draw_ways.Goals as goal

pub returns-then-is_empty : goal.returns-then-is_empty
returns-then-is_empty g c = no_ways c.args.look.ui_testing (g.M.SourceMapper.files c.args.cm.now) c.args.width c.args.ways.now c.args.buffer.now c.is_empty.result c.is_empty.ensures c.if-is_empty.true

pub returns : goal.returns
returns g c = some_ways_if c.args.look.ui_testing (g.M.SourceMapper.files c.args.cm.now) c.args.width c.args.ways.now c.args.buffer.now c.draw_bar.new.buffer c.draw_each.new.buffer c.draw_each.result c.is_empty.result c.is_empty.ensures c.if-is_empty.false c.in_ok-draw_bar.ensures c.draw_each.ensures
