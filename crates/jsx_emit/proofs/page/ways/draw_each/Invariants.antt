use Rattle.std.proofs.Common.{◌≡◌, ◌-◌, drop, take, map, length}
use Rattle.jsx_diag.specs.Splice.{spliced_data}
use Rattle.jsx_emit.specs.Written.{ways_drawn}
use Rattle.jsx_emit.proofs.page.ways.draw_each.Given as goal

abbrev pub invariant-loop-way : goal.invariant-loop-way
invariant-loop-way g l = record { left : ways_drawn l.look.ui_testing (g.M.SourceMapper.files l.cm) l.width (length l.ways - 4) l.row (drop l.way-index (map spliced_data l.way-items)) l.buffer ≡ ways_drawn l.look.ui_testing (g.M.SourceMapper.files l.cm) l.width (length l.ways - 4) 2 (take 4 (map spliced_data l.ways)) l.fn.buffer }
