use Rattle.std.proofs.Common.{◌≡◌, map, take}
use Rattle.std.specs.List.{flat_map}
use Rattle.jsx_base.specs.MultiSpan.{label_data}
use Rattle.jsx_draw.specs.Spots.{held_in, spot_in}
use Rattle.jsx_draw.specs.Views.{spot_of}
use Rattle.jsx_draw.proofs.spots.spots_of.Given as goal

abbrev pub invariant-loop-label : goal.invariant-loop-label
invariant-loop-label g l = record { so : map spot_of l.spots.items ≡ flat_map (λ it. spot_in (held_in (g.M.SourceMapper.files l.cm) it.span) it) (take l.label-index (map label_data l.labels)) }
