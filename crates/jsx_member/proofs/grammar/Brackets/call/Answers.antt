use Rattle.std.proofs.Common.{refl, sym, subst}
use Rattle.jsx_make.specs.NodeSpans.{expr_at}
use Rattle.jsx_operand.specs.Spans.{Spans}
use Rattle.jsx_token.specs.Places.{end_of, next_of}
use Rattle.jsx_tree.proofs.Rows.Steps.{on}
use Rattle.jsx_operand.proofs.Places.{spans_from}
use Rattle.jsx_operand.proofs.Placing.{placed_as}
use Rattle.jsx_operand.proofs.PlacedExpressions.{call_row}
use Rattle.jsx_member.proofs.grammar.Brackets.call.Goals as goal

pub returns-clause-read : goal.returns-clause-read
returns-clause-read g c = record { parts = _; is = c.in_ok-call.ensures.view; row = c.in_ok-all.ensures.read }

pub returns-clause-placed : goal.returns-clause-placed
returns-clause-placed g c = record {
  on = λ w z s l bracket.
      placed_as c.in_ok-call.ensures.told c.in_ok-call.ensures.view (call_row l bracket c.in_ok-all.ensures.placed
      (spans_from c.span_to-span.ensures refl (c.start_of.ensures.on _ _ (subst (λ e. Spans (expr_at e) (next_of w) (end_of z)) (sym c.deref.ensures) s)) refl));
}
