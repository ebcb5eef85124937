use Rattle.std.proofs.Common.{refl, sym, ◌∙◌, ap}
use Rattle.jsx_tree.specs.View.{view_expr}
use Rattle.jsx_operand.specs.Climbing.{deletes_name}
use Rattle.jsx_tree.specs.ViewOperators.{unary_of}
use Rattle.jsx_operand.proofs.Operators.{unary_none}
use Rattle.jsx_tree.proofs.Rows.Placing.{no_node}
use Rattle.jsx_expression.proofs.Deleting.{no_deleted, unary_node}
use Rattle.jsx_operand.proofs.Places.{spans_from}
use Rattle.jsx_operand.proofs.Steps.{passed}
use Rattle.jsx_operand.proofs.Placing.{placed_as}
use Rattle.jsx_operand.proofs.PlacedExpressions.{unary_row}
use Rattle.jsx_expression.proofs.grammar.Expressions.unary.Goals as goal

pub returns-in_err-operand-clause-refused : goal.returns-in_err-operand-clause-refused
returns-in_err-operand-clause-refused g c = passed _ c.in_err-operand.ensures.refused c.from_residual.ensures.1 (λ b. no_node (unary_none (unary_of c.args.operator) b))

pub returns-clause-read : goal.returns-clause-read
returns-clause-read g c = unary_node (unary_of c.args.operator) (ap (λ e. deletes_name (unary_of c.args.operator) (view_expr e)) (sym c.deref.ensures) ∙ (sym c.deletes_name.ensures ∙ c.if-deletes_name.false)) c.in_ok-operand.ensures.read refl c.in_ok-unary.ensures.view

pub returns-then-deletes_name-clause-refused : goal.returns-then-deletes_name-clause-refused
returns-then-deletes_name-clause-refused g c = record { bars = λ _ _ _. no_deleted (unary_of c.args.operator) (ap (λ e. deletes_name (unary_of c.args.operator) (view_expr e)) (sym c.deref.ensures) ∙ (sym c.deletes_name.ensures ∙ c.if-deletes_name.true)) c.in_ok-operand.ensures.read }

pub returns-clause-ended : goal.returns-clause-ended
returns-clause-ended g c = c.in_ok-operand.ensures.settles.on refl

pub returns-clause-placed : goal.returns-clause-placed
returns-clause-placed g c = record {
  on = λ w sign begins.
      placed_as c.in_ok-unary.ensures.told c.in_ok-unary.ensures.view (unary_row (unary_of c.args.operator) sign c.in_ok-operand.ensures.placed (spans_from c.span_to.ensures refl (c.last_place-lo.ensures ∙ begins) refl));
}
