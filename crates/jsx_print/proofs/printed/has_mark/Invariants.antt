use Rattle.std.proofs.Common.{◌≡◌, false, take}
use Rattle.std.specs.List.{list_any}
use Rattle.jsx_base.specs.Comments.{is_marked}
use Rattle.jsx_print.proofs.printed.has_mark.Given as goal

abbrev pub invariant-loop-call : goal.invariant-loop-call
invariant-loop-call g l = list_any (λ b. is_marked (g.C.Comments.marked l.comments) b.0) (take l.call-index l.calls) ≡ false
