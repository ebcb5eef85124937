use Rattle.std.proofs.Common.{arith}
use Rattle.std.proofs.lemmas.Grind.{common_steps}
use Rattle.std.proofs.lemmas.List.Folds.{list_any_at}
use Rattle.jsx_base.specs.MultiSpan.{is_span, label_of}
use Rattle.jsx_base.proofs.Spans.{list_any-map}
use Rattle.jsx_base.proofs.multi_span.has_label.Goals as goal

pub returns-then-eq : goal.returns-then-eq
returns-then-eq c = rw (list_any-map (λ label. is_span c.args.span label.0) label_of c.args.labels.now) (grind (arith, common_steps, list_any_at))

pub returns : goal.returns
returns c = rw (list_any-map (λ label. is_span c.args.span label.0) label_of c.args.labels.now) (grind (arith, common_steps))
