use Rattle.std.proofs.Common.{refl, ◌∙◌}
use Rattle.jsx_tree.proofs.Rows.Placing.{no_node}
use Rattle.jsx_operand.proofs.Steps.{passed}
use Rattle.jsx_operand.proofs.Places.{spans_from}
use Rattle.jsx_operand.proofs.Placing.{placed_as}
use Rattle.jsx_declaration.proofs.Returns.{no_return, return_built, return_placed}
use Rattle.jsx_declaration.proofs.function.return_statement.Goals as goal

pub returns-then-not-context-clause-refused : goal.returns-then-not-context-clause-refused
returns-then-not-context-clause-refused g c = record { bars = λ _ _ _. no_return c.if-not-context.true }

pub returns-in_err-value-clause-refused : goal.returns-in_err-value-clause-refused
returns-in_err-value-clause-refused g c = passed _ c.in_err-value.ensures.refused c.from_residual.ensures.1 (λ n. no_node n)

pub returns-clause-read : goal.returns-clause-read
returns-clause-read g c = return_built c.if-not-context.false c.in_ok-value.ensures.read c.in_ok-return_statement.ensures.view

pub returns-clause-placed : goal.returns-clause-placed
returns-clause-placed g c = record { on = λ w sign begins. placed_as c.in_ok-return_statement.ensures.told c.in_ok-return_statement.ensures.view (return_placed sign c.in_ok-value.ensures.placed (spans_from c.span_to.ensures refl (c.last_place-lo.ensures ∙ begins) refl)) }
