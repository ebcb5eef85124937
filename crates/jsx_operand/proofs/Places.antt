-- Places in bytes, and spans between them.
use Rattle.std.proofs.Common.{◌≡◌, ℕ, Some, sym, refl, ap, ◌∙◌}
use Rattle.std.proofs.lemmas.Option.{same_Some}
use Rattle.jsx_base.specs.declared.place.Span.{Span}
use Rattle.jsx_base.specs.declared.place.BytePos.{BytePos}
use Rattle.jsx_make.specs.NodeSpans.{At}
use Rattle.jsx_operand.specs.Spans.{Spans, Extends, Starts}

-- the same span between equal places
pub spans_from : {at b : At} {lo hi x y : ℕ} → Spans at lo hi → b ≡ at → lo ≡ x → hi ≡ y → Spans b x y
spans_from s e f g = record { span = s.span; is = e ∙ s.is; from = s.from ∙ f; to = s.to ∙ g }

-- a node that goes on from one that begins at the place
pub extends_from : {before at b : At} {p : BytePos} {hi : ℕ} → Starts before p → Spans at p.0 hi → b ≡ at → Extends before b hi
extends_from t s e = record { on = λ lo h q. spans_from s e (t.on lo h q) refl }

pub starts_at : {at b : At} (s : Span) → b ≡ at → at ≡ Some s → Starts b s.lo
starts_at s e f = record { on = λ lo h q. ap (λ x. x.lo.0) (same_Some s q.span (sym (e ∙ f) ∙ q.is)) ∙ q.from }
