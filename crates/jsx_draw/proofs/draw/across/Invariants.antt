use Rattle.std.proofs.Common.{◌≡◌, ◌≤◌, ◌-◌, max}
use Rattle.jsx_draw.specs.Drawn.{across}
use Rattle.jsx_draw.proofs.draw.across.Given as goal

abbrev pub invariant-loop-col : goal.invariant-loop-col
invariant-loop-col l = record { high : l.col ≤ max l.fn.cols.0 l.fn.cols.1; so : l.buffer ≡ across l.row l.fn.cols.0 (l.col - l.fn.cols.0) l.cell l.fn.buffer }
