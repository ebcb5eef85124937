use Rattle.std.proofs.Common.{rules, ◌∙◌, sym}
use Rattle.std.proofs.lemmas.Simd.{map-map}
use Rattle.jsx_base.specs.MultiSpan.{labelled, label_of, label_data}
use Rattle.jsx_base.proofs.Spans.{viewed_more, viewed_all}
use Rattle.jsx_base.proofs.multi_span.with_labels.Goals as goal

pub loop-label-preserved : goal.loop-label-preserved
loop-label-preserved c = viewed_more (λ label. labelled c.args.primary.now (label_of label)) label_data _ c.loop-label.shown.items _ _ c.label-item.result _ c.loop-label-test.true c.loop-label.invariant c.label-item.is (search rules) c.in_ok-push.ensures.items

pub returns : goal.returns
returns c =
    viewed_all _ label_data _ c.loop-label.shown.items _ c.loop-label-test.false c.loop-label.invariant
    ∙ sym (map-map (labelled c.args.primary.now) label_of c.args.labels.now)
