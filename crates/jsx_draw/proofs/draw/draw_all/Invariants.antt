use Rattle.std.proofs.Common.{◌≡◌, map, take}
use Rattle.jsx_draw.specs.Drawn.{drawn, layer_of}
use Rattle.jsx_draw.specs.Views.{columns_of, layer_data, placed_of}
use Rattle.jsx_draw.proofs.draw.draw_all.Given as goal

abbrev pub invariant-loop-it : goal.invariant-loop-it
invariant-loop-it l = record { so : l.buffer ≡ drawn (layer_of (layer_data l.layer) (columns_of l.at)) (take l.it-index (map placed_of l.placed)) l.fn.buffer }
