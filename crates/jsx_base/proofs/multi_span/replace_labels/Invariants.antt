use Rattle.jsx_base.specs.MultiSpan.{is_span, replaced}
use Rattle.jsx_base.proofs.Spans.{MappedTo, Found}
use Rattle.jsx_base.proofs.multi_span.replace_labels.Given as goal

abbrev pub invariant-loop-label : goal.invariant-loop-label
invariant-loop-label l = record {
  found : Found (λ label. is_span l.before label.0) l.label-index l.fn.labels l.found;
  labels : MappedTo (λ label. (replaced l.before l.after label.0, label.1)) l.label-index l.fn.labels l.labels;
}
