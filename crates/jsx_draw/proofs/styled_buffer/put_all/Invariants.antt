use Rattle.std.proofs.Common.{◌≡◌, vec_capacity}
use Rattle.jsx_draw.proofs.Grids.{Putting}
use Rattle.jsx_draw.proofs.styled_buffer.put_all.Given as goal

abbrev pub invariant-loop-cell : goal.invariant-loop-cell
invariant-loop-cell l = record {
  putting : Putting l.cells l.col l.fn.row.items l.cell-index l.at l.row.items;
  room : vec_capacity l.row ≡ vec_capacity l.fn.row;
}
