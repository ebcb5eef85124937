use Rattle.std.proofs.Common.{◌≡◌}
use Rattle.jsx_draw.specs.Drawn.{frame}
use Rattle.jsx_draw.proofs.draw.frame.Given as goal

abbrev pub invariant-loop-row : goal.invariant-loop-row
invariant-loop-row l = record { so : l.buffer ≡ frame l.col l.row }
