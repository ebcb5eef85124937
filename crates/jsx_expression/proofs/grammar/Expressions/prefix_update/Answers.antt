use Rattle.std.proofs.Common.{refl, sym, ◌∙◌, ap, [], ◌∷◌}
use Rattle.jsx_tree.specs.Kinds.{Assigns, PrefixUpdate, expression, node, none, part}
use Rattle.jsx_tree.specs.Told.{told_node}
use Rattle.jsx_tree.specs.View.{view_expr}
use Rattle.jsx_operand.specs.Climbing.{is_target}
use Rattle.jsx_tree.specs.ViewOperators.{step_of}
use Rattle.jsx_tree.proofs.Rows.Steps.{bar, built_1}
use Rattle.jsx_expression.proofs.Targets.{only_target, no_target, unfit_target}
use Rattle.jsx_operand.proofs.PlacedTargets.{placed_target}
use Rattle.jsx_operand.proofs.Places.{spans_from}
use Rattle.jsx_operand.proofs.Steps.{passed}
use Rattle.jsx_operand.proofs.Placing.{placed_as}
use Rattle.jsx_operand.proofs.PlacedExpressions.{update_row}
use Rattle.jsx_expression.proofs.grammar.Expressions.prefix_update.Goals as goal

pub returns-in_err-operand-clause-refused : goal.returns-in_err-operand-clause-refused
returns-in_err-operand-clause-refused g c = passed _ c.in_err-operand.ensures.refused c.from_residual.ensures.1 (λ b. bar (no_target b))

pub returns-then-not-is_target-clause-refused : goal.returns-then-not-is_target-clause-refused
returns-then-not-is_target-clause-refused g c = record { bars = λ _ _ _. bar (unfit_target (ap (λ e. is_target (view_expr e)) (sym c.deref.ensures) ∙ (sym c.is_target.ensures ∙ c.if-not-is_target.true)) c.in_ok-operand.ensures.read) }

pub returns-clause-read : goal.returns-clause-read
returns-clause-read g c = built_1 refl (only_target (ap (λ e. is_target (view_expr e)) (sym c.deref.ensures) ∙ (sym c.is_target.ensures ∙ c.if-not-is_target.false)) c.in_ok-operand.ensures.read) (c.in_ok-prefix_update.ensures.view ∙ ap (λ u. node (expression (PrefixUpdate (step_of c.args.operator))) (part u none)) (c.in_ok-target.ensures.view Assigns))

pub returns-clause-ended : goal.returns-clause-ended
returns-clause-ended g c = c.in_ok-operand.ensures.settles.on refl

pub returns-clause-placed : goal.returns-clause-placed
returns-clause-placed g c = record {
  on = λ w sign begins.
      placed_as (c.in_ok-prefix_update.ensures.told ∙ ap (λ d. told_node c.span_to-span.result (d ∷ [])) c.in_ok-target.ensures.told)
      (c.in_ok-prefix_update.ensures.view ∙ ap (λ u. node (expression (PrefixUpdate (step_of c.args.operator))) (part u none)) (c.in_ok-target.ensures.view Assigns)) (update_row (step_of c.args.operator) sign (placed_target c.in_ok-target.ensures.formed c.in_ok-operand.ensures.placed) (spans_from c.span_to-span.ensures refl (c.last_place-lo.ensures ∙ begins) refl));
}
