-- Notes of a report.
use Rattle.std.proofs.Common.{◌≡◌, ℕ, ◌<◌, Bool, true, false, ◌&&◌, nat_eq, List, [], ◌∷◌, length, map, refl, ap, sym, ◌∙◌, arith}
use Rattle.std.proofs.lemmas.List.{length-map}
use Rattle.std.proofs.lemmas.Bool.{ne_eqb}
use Rattle.jsx_base.specs.declared.place.Span.{Span}
use Rattle.jsx_base.specs.declared.multi_span.SpanLabel.{SpanLabel}
use Rattle.jsx_base.specs.MultiSpan.{Spans, label_data, shown_labels}
use Rattle.jsx_diag.specs.Data.{Text}
use Rattle.jsx_emit.specs.Layout.{has_no_span}

pub not_zero : (n : ℕ) → 0 < n → nat_eq n 0 ≡ false
not_zero n more = ne_eqb n 0 (λ (e : n ≡ 0). omega (arith, more, e))

pub and_false : (b : Bool) → (b && false) ≡ false
and_false true = refl
and_false false = refl

-- something is shown unless there is no span
none_shown : (primary : List Span) (labels : List (Span × Text)) → nat_eq (length (shown_labels (record { primary = primary; labels = labels }))) 0 ≡ has_no_span (record { primary = primary; labels = labels })
none_shown [] [] = refl
none_shown (sp ∷ more) [] = not_zero _ (omega arith) ∙ ap (λ z. z && nat_eq (length {A = Span × Text} []) 0) (sym (not_zero (length (sp ∷ more)) (omega arith)))
none_shown primary (label ∷ labels) =
    not_zero _ (omega arith) ∙ sym (ap (λ z. nat_eq (length primary) 0 && z) (not_zero (length (label ∷ labels)) (omega arith)) ∙ and_false (nat_eq (length primary) 0))

pub points_nowhere : (spans : Spans) (shown : List SpanLabel) (b : Bool) → map label_data shown ≡ shown_labels spans → b ≡ nat_eq (length shown) 0 → b ≡ has_no_span spans
points_nowhere spans shown b are is = is ∙ ap (λ n. nat_eq n 0) (sym (length-map shown label_data) ∙ ap length are) ∙ none_shown spans.primary spans.labels
