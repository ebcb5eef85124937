use Rattle.std.proofs.Common.{◌≡◌, take, true}
use Rattle.std.specs.List.{list_all}
use Rattle.jsx_draw.specs.Annotation.{is_side, mark_of}
use Rattle.jsx_emit.proofs.page.lines.are_sides.Given as goal

abbrev pub invariant-loop-mark : goal.invariant-loop-mark
invariant-loop-mark l = list_all (λ mark. is_side (mark_of mark).kind) (take l.mark-index l.marks) ≡ true
