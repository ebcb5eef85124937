use Rattle.std.proofs.Common.{refl, sym, subst}
use Rattle.jsx_make.specs.NodeSpans.{expr_at}
use Rattle.jsx_operand.specs.Spans.{Spans}
use Rattle.jsx_token.specs.Places.{end_of, next_of}
use Rattle.jsx_tree.proofs.Rows.Steps.{bar, on, built_2}
use Rattle.jsx_operand.proofs.Values.{sign_ended}
use Rattle.jsx_operand.proofs.Places.{spans_from}
use Rattle.jsx_operand.proofs.Steps.{passed}
use Rattle.jsx_operand.proofs.Placing.{placed_as}
use Rattle.jsx_operand.proofs.PlacedExpressions.{index_row}
use Rattle.jsx_member.proofs.grammar.Brackets.index.Goals as goal

pub returns-in_err-inner-clause-refused : goal.returns-in_err-inner-clause-refused
returns-in_err-inner-clause-refused g c = passed _ c.in_err-inner.ensures.refused c.from_residual.ensures.1 (λ b. bar b)

pub returns-in_err-expect-clause-refused : goal.returns-in_err-expect-clause-refused
returns-in_err-expect-clause-refused g c = passed _ c.in_err-expect.ensures.refused c.from_residual-in_err-expect.ensures.1 (λ b. on c.in_ok-inner.ensures.read (bar b))

pub returns-clause-read : goal.returns-clause-read
returns-clause-read g c = built_2 refl c.in_ok-inner.ensures.read c.in_ok-expect.ensures.read c.in_ok-index.ensures.view

pub returns-clause-ended : goal.returns-clause-ended
returns-clause-ended g c = sign_ended c.in_ok-expect.ensures.read.past

pub returns-clause-placed : goal.returns-clause-placed
returns-clause-placed g c = record {
  on = λ w z s l bracket.
      placed_as c.in_ok-index.ensures.told c.in_ok-index.ensures.view (index_row l bracket c.in_ok-inner.ensures.placed c.in_ok-expect.ensures.takes
      (spans_from c.span_to-span.ensures refl (c.start_of.ensures.on _ _ (subst (λ e. Spans (expr_at e) (next_of w) (end_of z)) (sym c.deref.ensures) s)) refl));
}
