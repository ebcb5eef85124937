use Rattle.std.proofs.Common.{◌≡◌, ◌++◌, drop, map}
use Rattle.jsx_draw.specs.Drawn.{marks_placed}
use Rattle.jsx_draw.specs.Views.{placed_of, seen_mark}
use Rattle.jsx_draw.proofs.layout.place_all.Given as goal

abbrev pub invariant-loop-i : goal.invariant-loop-i
invariant-loop-i l = record { so : map placed_of l.placed.items ++ marks_placed l.row (map seen_mark (drop l.i l.falling)) ≡ map placed_of l.fn.placed.items ++ marks_placed 0 (map seen_mark l.fn.falling) }
