use Rattle.jsx_base.proofs.Spans.{MappedTo}
use Rattle.jsx_base.proofs.multi_span.put_at.Given as goal

abbrev pub invariant-loop-label : goal.invariant-loop-label
invariant-loop-label l = MappedTo (λ label. (l.span, label.1)) l.label-index l.fn.labels l.labels
