use Rattle.std.proofs.Common.{ap, ◌∙◌, sym, map}
use Rattle.std.proofs.lemmas.Simd.{map-map}
use Rattle.jsx_base.specs.MultiSpan.{label_of}
use Rattle.jsx_base.proofs.Spans.{mapped_next, mapped_all}
use Rattle.jsx_base.proofs.multi_span.put_at.Goals as goal

pub loop-label-preserved : goal.loop-label-preserved
loop-label-preserved c =
    mapped_next (λ label. (c.args.span, label.1)) c.args.labels.now c.loop-label.labels c.loop-label.label-index c.label-item.result c.loop-label-test.true c.loop-label.auto.labels c.loop-label.invariant

pub returns : goal.returns
returns c =
    ap (map label_of) (mapped_all _ _ _ _ c.loop-label-test.false c.loop-label.invariant)
    ∙ map-map label_of _ c.args.labels.now
    ∙ sym (map-map (λ label. (c.args.span, label.1)) label_of c.args.labels.now)
