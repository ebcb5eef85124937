use Rattle.std.proofs.Common.{refl, sym, ◌∙◌, subst}
use Rattle.jsx_make.specs.NodeSpans.{expr_at}
use Rattle.jsx_operand.specs.Spans.{Spans}
use Rattle.jsx_token.specs.Places.{end_of, next_of}
use Rattle.jsx_tree.proofs.Rows.Steps.{bar, built_1}
use Rattle.jsx_operand.proofs.Steps.{passed}
use Rattle.jsx_operand.proofs.Values.{name_ended}
use Rattle.jsx_operand.proofs.Places.{spans_from}
use Rattle.jsx_operand.proofs.Placing.{placed_as}
use Rattle.jsx_operand.proofs.PlacedExpressions.{member_row}
use Rattle.jsx_operand.proofs.operand.member.Goals as goal

pub returns-in_err-raw-clause-refused : goal.returns-in_err-raw-clause-refused
returns-in_err-raw-clause-refused c = passed _ c.in_err-raw.ensures.refused c.from_residual.ensures.1 (λ b. bar b)

pub returns-clause-read : goal.returns-clause-read
returns-clause-read c = built_1 refl c.in_ok-raw.ensures.read c.in_ok-member.ensures.view

pub returns-clause-placed : goal.returns-clause-placed
returns-clause-placed c = record {
  on = λ w z s l dot.
      placed_as c.in_ok-member.ensures.told c.in_ok-member.ensures.view (member_row l dot c.in_ok-raw.ensures.takes (c.last_place.ensures ∙ c.in_ok-raw.ensures.begins)
      (spans_from c.span_to-span.ensures refl (c.start_of.ensures.on _ _ (subst (λ e. Spans (expr_at e) (next_of w) (end_of z)) (sym c.deref.ensures) s)) refl));
}

pub returns-clause-ended : goal.returns-clause-ended
returns-clause-ended c = name_ended c.in_ok-raw.ensures.read
