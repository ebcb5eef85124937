use Rattle.std.proofs.Common.{refl, sym, subst}
use Rattle.jsx_make.specs.NodeSpans.{expr_at}
use Rattle.jsx_operand.specs.Spans.{Spans}
use Rattle.jsx_token.specs.Places.{end_of, next_of}
use Rattle.jsx_tree.proofs.Rows.Steps.{bar, on, built_3}
use Rattle.jsx_operand.proofs.Places.{spans_from}
use Rattle.jsx_operand.proofs.Steps.{passed}
use Rattle.jsx_operand.proofs.Placing.{placed_as}
use Rattle.jsx_operand.proofs.PlacedExpressions.{conditional_row}
use Rattle.jsx_expression.proofs.grammar.Expressions.conditional.Goals as goal

pub returns-in_err-then-clause-refused : goal.returns-in_err-then-clause-refused
returns-in_err-then-clause-refused g c = passed _ c.in_err-then.ensures.refused c.from_residual.ensures.1 (λ b. bar b)

pub returns-in_err-expect-clause-refused : goal.returns-in_err-expect-clause-refused
returns-in_err-expect-clause-refused g c = passed _ c.in_err-expect.ensures.refused c.from_residual-in_err-expect.ensures.1 (λ b. on c.in_ok-then.ensures.read (bar b))

pub returns-in_err-other-clause-refused : goal.returns-in_err-other-clause-refused
returns-in_err-other-clause-refused g c = passed _ c.in_err-other.ensures.refused c.from_residual-in_err-other.ensures.1 (λ b. on c.in_ok-then.ensures.read (on c.in_ok-expect.ensures.read (bar b)))

pub returns-clause-read : goal.returns-clause-read
returns-clause-read g c = built_3 refl c.in_ok-then.ensures.read c.in_ok-expect.ensures.read c.in_ok-other.ensures.read c.in_ok-conditional.ensures.view

pub returns-clause-ended : goal.returns-clause-ended
returns-clause-ended g c = c.in_ok-other.ensures.ended

pub returns-clause-placed : goal.returns-clause-placed
returns-clause-placed g c = record {
  on = λ w z s l question.
      placed_as c.in_ok-conditional.ensures.told c.in_ok-conditional.ensures.view (conditional_row l question c.in_ok-then.ensures.placed c.in_ok-expect.ensures.takes c.in_ok-other.ensures.placed
      (spans_from c.span_to-span.ensures refl (c.start_of.ensures.on _ _ (subst (λ e. Spans (expr_at e) (next_of w) (end_of z)) (sym c.deref.ensures) s)) refl));
}
