use Rattle.std.proofs.Common.{◌≡◌, ◌≤◌, ◌-◌, max}
use Rattle.jsx_draw.specs.Drawn.{down}
use Rattle.jsx_draw.proofs.draw.down.Given as goal

abbrev pub invariant-loop-row : goal.invariant-loop-row
invariant-loop-row l = record { high : l.row ≤ max l.fn.rows.0 l.fn.rows.1; so : l.buffer ≡ down l.col l.fn.rows.0 (l.row - l.fn.rows.0) l.cell l.fn.buffer }
