use Rattle.std.proofs.Common.{ap, ◌∙◌, sym, map, get_or}
use Rattle.std.proofs.lemmas.Simd.{map-map}
use Rattle.jsx_base.specs.MultiSpan.{is_span, replaced, label_of, replaced_label}
use Rattle.jsx_base.proofs.Spans.{replaced_more, found_all, mapped_all, list_any-map}
use Rattle.jsx_base.proofs.multi_span.replace_labels.Goals as goal

pub loop-label-preserved : goal.loop-label-preserved
loop-label-preserved c =
    let step = replaced_more (λ label. is_span c.args.before label.0) (λ label. (replaced c.args.before c.args.after label.0, label.1)) c.args.labels.now c.loop-label.labels c.loop-label.label-index c.label-item.result c.loop-label.found c.replace_one-found.result _ c.loop-label-test.true c.loop-label.auto.labels c.loop-label.invariant.found c.loop-label.invariant.labels c.replace_one-found.ensures.found (ap (λ span. (span, (get_or c.loop-label.labels c.loop-label.label-index c.label-item.result).1)) c.replace_one-found.ensures.span) in
    record { found = step.0; labels = step.1 }

pub returns-clause-found : goal.returns-clause-found
returns-clause-found c =
    found_all _ _ _ _ c.loop-label-test.false c.loop-label.invariant.found
    ∙ sym (list_any-map (λ label. is_span c.args.before label.0) label_of c.args.labels.now)

pub returns-clause-labels : goal.returns-clause-labels
returns-clause-labels c =
    ap (map label_of) (mapped_all _ _ _ _ c.loop-label-test.false c.loop-label.invariant.labels)
    ∙ map-map label_of _ c.args.labels.now
    ∙ sym (map-map (replaced_label c.args.before c.args.after) label_of c.args.labels.now)
