use Rattle.std.proofs.Common.{refl, sym, ◌∙◌, ap, subst, [], ◌∷◌}
use Rattle.jsx_make.specs.NodeSpans.{expr_at}
use Rattle.jsx_operand.specs.Spans.{Spans}
use Rattle.jsx_operand.specs.Turning.{turn_plain}
use Rattle.jsx_token.specs.Places.{end_of, next_of}
use Rattle.jsx_tree.specs.Told.{told_expr, told_node}
use Rattle.jsx_tree.specs.View.{view_expr, view_target}
use Rattle.jsx_operand.proofs.Places.{spans_from}
use Rattle.jsx_operand.proofs.Placing.{placed_as}
use Rattle.jsx_operand.proofs.PlacedExpressions.{assign_row}
use Rattle.jsx_operand.proofs.Steps.{passed, passed_in, passed_plain}
use Rattle.jsx_expression.proofs.Depths.{outgrown_as}
use Rattle.jsx_expression.proofs.Operands.{not_assigned_deep, not_assigned_value}
use Rattle.jsx_expression.proofs.grammar.Expressions.pattern_assignment.Goals as goal

pub returns-in_err-target-clause-refused : goal.returns-in_err-target-clause-refused
returns-in_err-target-clause-refused g c = passed_plain _ c.in_err-target.ensures.refused c.from_residual.ensures.1 (λ n. record { no = λ p t y d f w s. n p d })

pub returns-in_err-levels-clause-refused : goal.returns-in_err-levels-clause-refused
returns-in_err-levels-clause-refused g c = passed _ (outgrown_as (ap view_target c.deref-2.ensures) c.in_err-levels.ensures.assigns) c.from_residual-in_err-levels.ensures.1 (λ o. not_assigned_deep c.in_ok-target.ensures.read o)

pub returns-in_err-value-clause-refused : goal.returns-in_err-value-clause-refused
returns-in_err-value-clause-refused g c = passed_in _ c.in_ok-levels.ensures.levels c.in_err-value.ensures.refused c.from_residual-in_err-value.ensures.1 (λ b. not_assigned_value b)

pub returns-clause-read : goal.returns-clause-read
returns-clause-read g c = record { pattern = view_target c.in_ok-target.target.value; turned = c.in_ok-target.ensures.read; value = view_expr c.in_ok-value.value.value; is = c.in_ok-assign.ensures.view; only = c.in_ok-value.ensures.read }

pub returns-clause-placed : goal.returns-clause-placed
returns-clause-placed g c = record {
  on = λ w z s l sign.
      placed_as (c.in_ok-assign.ensures.told ∙ ap (λ d. told_node c.span_to.result (d ∷ told_expr c.in_ok-value.value.value ∷ [])) c.in_ok-target.ensures.told) c.in_ok-assign.ensures.view
      (assign_row (l.element (view_target c.in_ok-target.target.value) (record { may = c.in_ok-target.ensures.read.may; turns = turn_plain c.in_ok-target.ensures.read.turns })) sign c.in_ok-value.ensures.placed
      (spans_from c.span_to.ensures refl (c.start_of-lo.ensures.on _ _ (subst (λ e. Spans (expr_at e) (next_of w) (end_of z)) (sym c.deref.ensures) s)) refl));
}
