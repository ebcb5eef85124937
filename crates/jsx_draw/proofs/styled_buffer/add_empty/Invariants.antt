use Rattle.std.proofs.Common.{◌≡◌, ◌≤◌, ◌-◌, [], vec_len, vec_capacity}
use Rattle.jsx_draw.specs.Grid.{grid_of}
use Rattle.jsx_draw.proofs.Grids.{Grown}
use Rattle.jsx_draw.proofs.styled_buffer.add_empty.Given as goal

abbrev pub invariant-loop-alloc : goal.invariant-loop-alloc
invariant-loop-alloc l = record {
  grown : Grown [] l.n (grid_of l.fn.rows.items) (grid_of l.rows.items);
  room : vec_capacity l.rows ≡ vec_capacity l.fn.rows;
  below : vec_len l.rows ≤ l.n;
}

abbrev pub decreases-loop-alloc : goal.decreases-loop-alloc
decreases-loop-alloc l = l.n - vec_len l.rows
