use Rattle.jsx_base.specs.MultiSpan.{label_of, label_data, labelled}
use Rattle.jsx_base.proofs.Spans.{Viewed}
use Rattle.jsx_base.proofs.multi_span.with_labels.Given as goal

abbrev pub invariant-loop-label : goal.invariant-loop-label
invariant-loop-label l = Viewed (λ label. labelled l.primary (label_of label)) label_data l.label-index l.labels l.shown.items
