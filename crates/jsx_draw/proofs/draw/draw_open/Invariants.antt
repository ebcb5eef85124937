use Rattle.std.proofs.Common.{◌≡◌, take}
use Rattle.jsx_draw.specs.Drawn.{draw_open, drawn}
use Rattle.jsx_draw.proofs.draw.draw_open.Given as goal

abbrev pub invariant-loop-depth : goal.invariant-loop-depth
invariant-loop-depth l = record { so : l.buffer ≡ drawn (draw_open l.bars l.rows) (take l.depth-index l.depths) l.fn.buffer }
