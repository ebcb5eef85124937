use Rattle.jsx_base.proofs.SpanLines as span_lines
use Rattle.jsx_base.proofs.span_laws.lines_hold_text.Goals as goal

pub returns : goal.returns
returns c = span_lines.lines_hold_text
