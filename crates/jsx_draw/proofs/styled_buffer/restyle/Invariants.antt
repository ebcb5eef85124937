use Rattle.std.proofs.Common.{◌≡◌, ◌-◌}
use Rattle.jsx_draw.specs.Grid.{change_from, restyled}
use Rattle.jsx_draw.proofs.styled_buffer.restyle.Given as goal

abbrev pub invariant-loop-col : goal.invariant-loop-col
invariant-loop-col l = l.row ≡ change_from l.begin (l.col - l.begin) (restyled l.style l.overwrite) l.fn.row
