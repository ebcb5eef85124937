use Rattle.std.proofs.Common.{◌≡◌, map, take}
use Rattle.jsx_draw.specs.Drawn.{first_column}
use Rattle.jsx_draw.specs.Views.{spot_of, wide_of}
use Rattle.jsx_draw.proofs.wides.first_columns.Given as goal

abbrev pub invariant-loop-spot : goal.invariant-loop-spot
invariant-loop-spot l = record { so : map wide_of l.wides.items ≡ take l.spot-index (map (λ it. first_column (spot_of it)) l.spots) }
