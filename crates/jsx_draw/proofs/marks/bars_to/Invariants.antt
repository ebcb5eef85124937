use Rattle.std.proofs.Common.{◌≡◌, map, take}
use Rattle.std.specs.List.{flat_map}
use Rattle.jsx_draw.specs.Drawn.{bar_of, goes_to}
use Rattle.jsx_draw.specs.Views.{shown_line, wide_of}
use Rattle.jsx_draw.proofs.marks.bars_to.Given as goal

abbrev pub invariant-loop-wide : goal.invariant-loop-wide
invariant-loop-wide l = record { so : l.bars.items ≡ flat_map (bar_of (goes_to (shown_line l.at))) (take l.wide-index (map wide_of l.wides)) }
