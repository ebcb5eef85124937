use Rattle.std.proofs.Common.{ap, ◌∙◌}
use Rattle.jsx_base.specs.MultiSpan.{label_of}
use Rattle.jsx_base.proofs.Spans.{viewed_clones}
use Rattle.jsx_base.proofs.multi_span.copy_labels.Goals as goal

pub returns : goal.returns
returns c =
    viewed_clones label_of _ (λ x y same. ap (λ span. (span, (label_of y).1)) same.0 ∙ ap (λ text. (x.0, text)) same.1) c.args.labels.now _ c.in_ok-copies.ensures.items
