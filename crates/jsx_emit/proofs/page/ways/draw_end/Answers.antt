use Rattle.jsx_emit.proofs.Ways.{dots_drawn}
use Rattle.jsx_emit.proofs.page.ways.draw_end.Goals as goal

pub returns-then-end-clause-drawn : goal.returns-then-end-clause-drawn
returns-then-end-clause-drawn g c = dots_drawn c.args.end.cut c.saturating_sub.result c.args.width c.args.end.row c.args.buffer.now c.puts.new.self _ c.if-end.true c.saturating_sub.ensures c.in_ok-puts.ensures.put
