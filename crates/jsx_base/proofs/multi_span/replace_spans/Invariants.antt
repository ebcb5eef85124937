use Rattle.jsx_base.specs.MultiSpan.{is_span, replaced}
use Rattle.jsx_base.proofs.Spans.{MappedTo, Found}
use Rattle.jsx_base.proofs.multi_span.replace_spans.Given as goal

abbrev pub invariant-loop-span : goal.invariant-loop-span
invariant-loop-span l = record {
  found : Found (is_span l.before) l.span-index l.fn.spans l.found;
  spans : MappedTo (replaced l.before l.after) l.span-index l.fn.spans l.spans;
}
