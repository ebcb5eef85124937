use Rattle.std.proofs.Common.{◌≡◌, take, false}
use Rattle.std.specs.List.{list_any}
use Rattle.jsx_draw.specs.Annotation.{mark_of}
use Rattle.jsx_draw.specs.Drawn.{marks_meet}
use Rattle.jsx_draw.specs.Views.{seen_mark}
use Rattle.jsx_draw.proofs.layout.meets_later.Given as goal

abbrev pub invariant-loop-other : goal.invariant-loop-other
invariant-loop-other l = list_any (λ other. marks_meet l.row (mark_of l.mark) (seen_mark other)) (take l.other-index l.later) ≡ false
