use Rattle.jsx_draw.specs.Grid.{shown_runs}
use Rattle.jsx_draw.proofs.Grids.{Showing}
use Rattle.jsx_draw.proofs.styled_buffer.shown_row.Given as goal

abbrev pub invariant-loop-cell : goal.invariant-loop-cell
invariant-loop-cell l = Showing l.row l.cell-index (shown_runs l.shown)
