use Rattle.jsx_base.proofs.SpanLines as span_lines
use Rattle.jsx_base.proofs.span_laws.merged_hold_both.Goals as goal

pub returns : goal.returns
returns c = span_lines.merged_hold_both
