use Rattle.std.proofs.Common.{[], ◌∷◌, refl, sym, ◌∙◌, ap}
use Rattle.jsx_tree.specs.Kinds.{Continue, statement, node, none, part}
use Rattle.jsx_tree.specs.Told.{told_node}
use Rattle.jsx_tree.proofs.Rows.Placing.{no_node}
use Rattle.jsx_declaration.proofs.Jumps.{continue_built, no_continue, unended}
use Rattle.jsx_operand.proofs.Steps.{passed}
use Rattle.jsx_operand.proofs.Placing.{placed_as}
use Rattle.jsx_operand.proofs.Places.{spans_from}
use Rattle.jsx_declaration.proofs.PlacedNodes.{continue_placed}
use Rattle.jsx_declaration.proofs.statement.continue_statement.Goals as goal

pub returns-in_err-label-clause-refused : goal.returns-in_err-label-clause-refused
returns-in_err-label-clause-refused c = passed _ c.in_err-label.ensures.refused c.from_residual.ensures.1 (λ n. no_node n)

pub returns-then-not-may_continue-clause-refused : goal.returns-then-not-may_continue-clause-refused
returns-then-not-may_continue-clause-refused c = record { bars = λ _ _ _. no_continue c.in_ok-label.label (sym c.may_continue.ensures ∙ c.if-not-may_continue.true) c.in_ok-label.ensures.read }

pub returns-in_err-semicolon-clause-refused : goal.returns-in_err-semicolon-clause-refused
returns-in_err-semicolon-clause-refused c = passed _ c.in_err-semicolon.ensures.refused c.from_residual-in_err-semicolon.ensures.1 (λ b. no_node (unended c.in_ok-label.ensures.read b))

pub returns-clause-read : goal.returns-clause-read
returns-clause-read c = continue_built c.in_ok-label.label (sym c.may_continue.ensures ∙ c.if-not-may_continue.false) c.in_ok-label.ensures.read c.in_ok-semicolon.ensures.read refl (c.in_ok-continue_statement.ensures.view ∙ ap (λ l. node (statement Continue) (part l none)) c.target.ensures.view)

pub returns-clause-placed : goal.returns-clause-placed
returns-clause-placed c = record {
  on = λ w sign begins. placed_as (c.in_ok-continue_statement.ensures.told ∙ ap (λ d. told_node c.span_to.result (d ∷ [])) c.target.ensures.told) (c.in_ok-continue_statement.ensures.view ∙ ap (λ l. node (statement Continue) (part l none)) c.target.ensures.view)
      (continue_placed sign c.in_ok-label.ensures.placed c.in_ok-semicolon.ensures.takes (spans_from c.span_to.ensures refl (c.last_place-lo.ensures ∙ begins) refl));
}
