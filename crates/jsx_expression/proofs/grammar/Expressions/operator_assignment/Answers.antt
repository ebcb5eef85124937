use Rattle.std.proofs.Common.{refl, sym, ◌∙◌, ap, subst, [], ◌∷◌}
use Rattle.jsx_tree.specs.Kinds.{Assigns, OpAssign, expression, node, none, part}
use Rattle.jsx_tree.specs.View.{view_expr}
use Rattle.jsx_tree.specs.Told.{told_expr, told_node}
use Rattle.jsx_make.specs.NodeSpans.{expr_at}
use Rattle.jsx_tree.specs.ViewOperators.{assign_of}
use Rattle.jsx_operand.specs.Spans.{Spans}
use Rattle.jsx_token.specs.Places.{end_of, next_of}
use Rattle.jsx_tree.proofs.Rows.Steps.{bar, built_1}
use Rattle.jsx_operand.proofs.PlacedTargets.{placed_target}
use Rattle.jsx_operand.proofs.Places.{spans_from}
use Rattle.jsx_operand.proofs.Steps.{passed}
use Rattle.jsx_operand.proofs.Placing.{placed_as}
use Rattle.jsx_operand.proofs.PlacedExpressions.{op_assign_row}
use Rattle.jsx_expression.proofs.grammar.Expressions.operator_assignment.Goals as goal

pub returns-in_err-value-clause-refused : goal.returns-in_err-value-clause-refused
returns-in_err-value-clause-refused g c = passed _ c.in_err-value.ensures.refused c.from_residual.ensures.1 (λ b. bar b)

pub returns-clause-read : goal.returns-clause-read
returns-clause-read g c = built_1 refl c.in_ok-value.ensures.read (c.in_ok-op_assign.ensures.view ∙ ap (λ u. node (expression (OpAssign (assign_of c.args.operator))) (part u (part (view_expr c.in_ok-value.value.value) none))) (c.in_ok-target.ensures.view Assigns))

pub returns-clause-ended : goal.returns-clause-ended
returns-clause-ended g c = c.in_ok-value.ensures.ended

pub returns-clause-placed : goal.returns-clause-placed
returns-clause-placed g c = record {
  on = λ w z s l sign.
      placed_as (c.in_ok-op_assign.ensures.told ∙ ap (λ d. told_node c.span_to-span.result (d ∷ told_expr c.in_ok-value.value.value ∷ [])) c.in_ok-target.ensures.told)
      (c.in_ok-op_assign.ensures.view ∙ ap (λ u. node (expression (OpAssign (assign_of c.args.operator))) (part u (part (view_expr c.in_ok-value.value.value) none))) (c.in_ok-target.ensures.view Assigns))
      (op_assign_row (assign_of c.args.operator) (placed_target c.in_ok-target.ensures.formed l) sign c.in_ok-value.ensures.placed
      (spans_from c.span_to-span.ensures refl (c.start_of.ensures.on _ _ (subst (λ e. Spans (expr_at e) (next_of w) (end_of z)) (sym c.deref.ensures) s)) refl));
}

-- what begins with `import`
