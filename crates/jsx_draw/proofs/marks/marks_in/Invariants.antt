use Rattle.std.proofs.Common.{◌≡◌, [], ◌∷◌, ◌++◌, map, take}
use Rattle.std.specs.List.{flat_map}
use Rattle.jsx_draw.specs.Annotation.{mark_of}
use Rattle.jsx_draw.specs.Drawn.{single_mark, wide_marks}
use Rattle.jsx_draw.specs.Spots.{at_line}
use Rattle.jsx_draw.specs.Views.{shown_line, spot_of, wide_of}
use Rattle.jsx_draw.proofs.marks.marks_in.Given as goal

abbrev pub invariant-loop-spot : goal.invariant-loop-spot
invariant-loop-spot l = record { so : map mark_of l.marks.items ≡ flat_map (λ spot. map single_mark (at_line (shown_line l.at) (spot ∷ []))) (take l.spot-index (map spot_of l.singles)) }

abbrev pub invariant-loop-wide : goal.invariant-loop-wide
invariant-loop-wide l = record { so : map mark_of l.marks.items ≡ map single_mark (at_line (shown_line l.at) (map spot_of l.singles)) ++ flat_map (wide_marks (shown_line l.at)) (take l.wide-index (map wide_of l.wides)) }
