use Rattle.std.proofs.Common.{◌≡◌, take, false}
use Rattle.std.specs.List.{list_any}
use Rattle.jsx_draw.specs.Annotation.{mark_of}
use Rattle.jsx_draw.specs.Drawn.{mark_overlaps}
use Rattle.jsx_draw.specs.Views.{seen_mark}
use Rattle.jsx_draw.proofs.layout.is_overlapped.Given as goal

abbrev pub invariant-loop-other : goal.invariant-loop-other
invariant-loop-other l = list_any (λ other. mark_overlaps 0 (seen_mark other) (mark_of l.mark)) (take l.other-index l.later) ≡ false
