use Rattle.std.proofs.Common.{◌≡◌, refl, sym, ◌∙◌, ap, subst, [], ◌∷◌}
use Rattle.jsx_tree.specs.Told.{told_node}
use Rattle.std.specs.Prelude.{IsTrue}
use Rattle.jsx_tree.specs.Kinds.{Assigns, UpdateOp, Increment, Decrement, PostfixUpdate, expression, Tree, node, none, part}
use Rattle.jsx_tree.specs.Reading.{Place}
use Rattle.jsx_tree.specs.StaticRules.{Surroundings}
use Rattle.jsx_tree.specs.Walk.{is_found}
use Rattle.jsx_tree.specs.Answers.{Built}
use Rattle.jsx_tree.specs.ViewOperators.{step_of}
use Rattle.jsx_operand.specs.SoFar.{so_far}
use Rattle.jsx_operand.specs.Climbing.{behind}
use Rattle.jsx_make.specs.NodeSpans.{expr_at}
use Rattle.jsx_operand.specs.Spans.{Spans}
use Rattle.jsx_token.specs.Places.{next_of, end_of}
use Rattle.jsx_tree.proofs.Rows.Steps.{end}
use Rattle.jsx_operand.proofs.PlacedTargets.{placed_target}
use Rattle.jsx_operand.proofs.Places.{spans_from}
use Rattle.jsx_operand.proofs.Placing.{placed_as}
use Rattle.jsx_operand.proofs.PlacedExpressions.{postfix_row}
use Rattle.jsx_operand.proofs.operand.postfix_update.Goals as goal

-- nothing stands behind the operator
built : {v : Surroundings} {x : Place} {t w : Tree} (o : UpdateOp) → IsTrue (is_found x) → w ≡ node (expression (PostfixUpdate o)) (part t none) → Built so_far v (behind (expression (PostfixUpdate o))) (expression (PostfixUpdate o)) (part t) w x x
built Increment f is = record { parts = none; is = is; row = end f }
built Decrement f is = record { parts = none; is = is; row = end f }

pub returns-clause-read : goal.returns-clause-read
returns-clause-read c = built (step_of c.args.operator) refl (c.in_ok-postfix_update.ensures.view ∙ ap (λ u. node (expression (PostfixUpdate (step_of c.args.operator))) (part u none)) (c.in_ok-target.ensures.view Assigns))

pub returns-clause-placed : goal.returns-clause-placed
returns-clause-placed c = record {
  on = λ w z s l sign.
      placed_as (c.in_ok-postfix_update.ensures.told ∙ ap (λ d. told_node c.span_to-span.result (d ∷ [])) c.in_ok-target.ensures.told)
      (c.in_ok-postfix_update.ensures.view ∙ ap (λ u. node (expression (PostfixUpdate (step_of c.args.operator))) (part u none)) (c.in_ok-target.ensures.view Assigns)) (postfix_row (step_of c.args.operator) (placed_target c.in_ok-target.ensures.formed l) sign
      (spans_from c.span_to-span.ensures refl (c.start_of.ensures.on _ _ (subst (λ e. Spans (expr_at e) (next_of w) (end_of z)) (sym c.deref.ensures) s)) refl));
}
