use Rattle.std.proofs.Common.{◌≡◌, map, take}
use Rattle.jsx_draw.specs.Drawn.{moved_by_each}
use Rattle.jsx_draw.specs.Views.{spot_of, wide_of}
use Rattle.jsx_draw.proofs.wides.move_by_each.Given as goal

abbrev pub invariant-loop-one : goal.invariant-loop-one
invariant-loop-one l = record { so : map wide_of l.wides ≡ moved_by_each (take l.one-index (map spot_of l.spots)) (map wide_of l.fn.wides) }
