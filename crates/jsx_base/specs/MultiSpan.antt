-- What clients see of the spans and labels to which a report points.
use Rattle.std.specs.Prelude.{ℕ, List, [], ◌∷◌, ◌++◌, Option, Some, None, Bool, true, not, map, filter, nat_eq, ◌&&◌, cond, string_bytes}
use Rattle.std.specs.List.{list_any}
use Rattle.std.specs.Option.{option_map}
use Rattle.std.specs.declared.string.String.{String}
use Rattle.std.specs.declared.alloc.Global.{Global}
use Rattle.jsx_base.specs.declared.place.Span.{Span}
use Rattle.jsx_base.specs.declared.multi_span.MultiSpan.{MultiSpan}
use Rattle.jsx_base.specs.declared.multi_span.SpanLabel.{SpanLabel}

-- primary spans, and spans with the bytes of their label, both in order
pub record Spans : Type 0 where
  pub primary : List Span
  pub labels : List (Span × List ℕ)

abbrev pub label_of : Span × String Global → Span × List ℕ
label_of label = (label.0, string_bytes label.1)

abbrev pub spans_of : MultiSpan → Spans
spans_of it = record { primary = it.primary_spans.items; labels = map label_of it.span_labels.items }

-- whether a span is the one that is looked for
abbrev pub is_span : Span → Span → Bool
is_span wanted span = nat_eq span.lo.0 wanted.lo.0 && nat_eq span.hi.0 wanted.hi.0

-- a span that is pointed at
pub record Label : Type 0 where
  pub span : Span
  pub is_primary : Bool
  pub label : Option (List ℕ)

abbrev pub label_data : SpanLabel → Label
label_data it = record { span = it.span; is_primary = it.is_primary; label = option_map string_bytes it.label }

-- a span with a label is primary where it is one of the primary spans
abbrev pub labelled : List Span → Span × List ℕ → Label
labelled primary label = record { span = label.0; is_primary = list_any (is_span label.0) primary; label = Some label.1 }

abbrev pub unlabelled : Span → Label
unlabelled span = record { span = span; is_primary = true; label = None }

-- the primary spans without a label
abbrev pub bare_spans : Spans → List Span
bare_spans spans = filter (λ span. not (list_any (λ label. is_span span label.0) spans.labels)) spans.primary

-- the labels in order, and then the primary spans without one
abbrev pub shown_labels : Spans → List Label
shown_labels spans = map (labelled spans.primary) spans.labels ++ map unlabelled (bare_spans spans)

abbrev pub replaced : Span → Span → Span → Span
replaced before after span = cond (is_span before span) after span

abbrev pub replaced_label : Span → Span → Span × List ℕ → Span × List ℕ
replaced_label before after label = (replaced before after label.0, label.1)

-- one primary span, with the text of each label
abbrev pub relabelled : Spans → Span → Spans
relabelled spans after = record { primary = after ∷ []; labels = map (λ label. (after, label.1)) spans.labels }
