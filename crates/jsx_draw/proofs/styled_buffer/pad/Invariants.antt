use Rattle.std.proofs.Common.{◌≡◌, ◌-◌, vec_len, vec_capacity}
use Rattle.jsx_draw.specs.Grid.{blank}
use Rattle.jsx_draw.proofs.Grids.{Grown}
use Rattle.jsx_draw.proofs.styled_buffer.pad.Given as goal

abbrev pub invariant-loop-row : goal.invariant-loop-row
invariant-loop-row l = record {
  grown : Grown blank l.n l.fn.row.items l.row.items;
  room : vec_capacity l.row ≡ vec_capacity l.fn.row;
}

abbrev pub decreases-loop-row : goal.decreases-loop-row
decreases-loop-row l = l.n - vec_len l.row
