use Rattle.std.proofs.Common.{◌≡◌, map, take}
use Rattle.jsx_draw.specs.Spots.{greatest}
use Rattle.jsx_draw.specs.Views.{placed_of}
use Rattle.jsx_draw.proofs.layout.row_count.Given as goal

abbrev pub invariant-loop-it : goal.invariant-loop-it
invariant-loop-it l = record { so : l.greatest ≡ greatest (take l.it-index (map (λ it. it.row) (map placed_of l.placed))) }
