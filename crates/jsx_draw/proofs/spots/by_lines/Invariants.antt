use Rattle.std.proofs.Common.{◌≡◌, map, not, take}
use Rattle.std.specs.List.{flat_map}
use Rattle.jsx_draw.specs.Spots.{is_single}
use Rattle.jsx_draw.specs.Views.{spot_of}
use Rattle.jsx_draw.proofs.Loops.{if_so}
use Rattle.jsx_draw.proofs.spots.by_lines.Given as goal

abbrev pub invariant-loop-spot : goal.invariant-loop-spot
invariant-loop-spot l = record { so : map spot_of l.wide.items ≡ flat_map (if_so (λ spot. not (is_single spot))) (take l.spot-index (map spot_of l.spots)) }
