use Rattle.std.proofs.Common.{◌≡◌, ◌++◌, drop, length, map, take}
use Rattle.jsx_draw.specs.Drawn.{moved_by}
use Rattle.jsx_draw.specs.Views.{spot_of, wide_of}
use Rattle.jsx_draw.proofs.wides.move_by.Given as goal

abbrev pub invariant-loop-i : goal.invariant-loop-i
invariant-loop-i l = record {
  long : length l.wides ≡ length l.fn.wides;
  so : moved_by (spot_of l.one) (map wide_of l.fn.wides) ≡ take l.i (map wide_of l.wides) ++ moved_by (spot_of l.one) (drop l.i (map wide_of l.wides));
}
