use Rattle.std.proofs.Common.{◌-◌, length}
use Rattle.jsx_emit.proofs.Ways.{way_next, ways_begun, ways_last_if}
use Rattle.jsx_emit.proofs.page.ways.draw_each.Goals as goal

pub loop-way-init : goal.loop-way-init
loop-way-init g c = record { left = ways_begun c.args.look.ui_testing (g.M.SourceMapper.files c.args.cm.now) c.args.width (length c.args.ways.now - 4) c.args.ways.now c.first_ways-way-items.result.now c.args.buffer.now c.first_ways-way-items.ensures }

pub loop-way-preserved : goal.loop-way-preserved
loop-way-preserved g c = record { left = way_next c.args.look.ui_testing (g.M.SourceMapper.files c.args.cm.now) c.args.width (length c.args.ways.now - 4) c.loop-way.row c.in_ok-row.row c.first_ways-way-items.result.now c.loop-way.way-index c.way-item.result c.loop-way.buffer c.draw_way.new.buffer _ c.loop-way-test.true c.way-item.is c.in_ok-row.ensures.next c.in_ok-row.ensures.drawn c.loop-way.invariant.left }

pub returns : goal.returns
returns g c = ways_last_if c.args.look.ui_testing (g.M.SourceMapper.files c.args.cm.now) c.args.width (length c.args.ways.now - 4) c.loop-way.row c.first_ways-way-items.result.now c.loop-way.way-index c.loop-way.buffer c.draw_others.new.buffer _ c.draw_others.result c.loop-way-test.false c.draw_others.ensures c.loop-way.invariant.left
