use Rattle.std.proofs.Common.{rules, ap, ◌∙◌, refl}
use Rattle.jsx_base.specs.declared.place.Span.{Span}
use Rattle.jsx_base.specs.MultiSpan.{label_data, unlabelled}
use Rattle.jsx_base.proofs.Spans.{viewed_kept, viewed_skipped, viewed_after_all}
use Rattle.jsx_base.proofs.multi_span.push_bare.Goals.{then-not-has_label+in_ok-push, else-not-has_label}
use Rattle.jsx_base.proofs.multi_span.push_bare.Goals as goal

abbrev zero_span : Span
zero_span = record { lo = record { 0 = 0 }; hi = record { 0 = 0 } }

pub loop-span-preserved : goal.loop-span-preserved
loop-span-preserved c = elim c.if-not-has_label.branch [
  | then-not-has_label+in_ok-push w ↦
      viewed_kept _ _ unlabelled label_data _ c.loop-span.shown.items _ _ _ zero_span _ c.loop-span-test.true c.loop-span.invariant refl (search rules) refl (ap (λ v. v.items) w.shown-is ∙ w.in_ok-push.ensures.items)
  | else-not-has_label w ↦
      viewed_skipped _ _ unlabelled label_data _ c.loop-span.shown.items _ _ zero_span c.loop-span-test.true c.loop-span.invariant (search rules) (ap (λ v. v.items) w.shown-is)
]

pub returns : goal.returns
returns c = viewed_after_all _ _ unlabelled label_data _ c.loop-span.shown.items _ c.loop-span-test.false c.loop-span.invariant
