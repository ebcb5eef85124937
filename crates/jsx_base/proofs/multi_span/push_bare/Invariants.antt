use Rattle.std.proofs.Common.{map, not}
use Rattle.std.specs.List.{list_any}
use Rattle.jsx_base.specs.MultiSpan.{label_of, label_data, unlabelled, is_span}
use Rattle.jsx_base.proofs.Spans.{ViewedAfter}
use Rattle.jsx_base.proofs.multi_span.push_bare.Given as goal

abbrev pub invariant-loop-span : goal.invariant-loop-span
invariant-loop-span l =
    ViewedAfter (map label_data l.fn.shown.items)
    (λ span. not (list_any (λ label. is_span span label.0) (map label_of l.labels)))
    unlabelled label_data l.span-index l.primary l.shown.items
