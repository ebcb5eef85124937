use Rattle.std.proofs.Common.{◌≡◌, take, false}
use Rattle.std.specs.List.{list_any}
use Rattle.jsx_base.specs.MultiSpan.{is_span}
use Rattle.jsx_base.proofs.multi_span.has_label.Given as goal

abbrev pub invariant-loop-labelled : goal.invariant-loop-labelled
invariant-loop-labelled l = list_any (λ label. is_span l.span label.0) (take l.labelled-index l.labels) ≡ false
