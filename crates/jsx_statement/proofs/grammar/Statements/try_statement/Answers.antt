use Rattle.std.proofs.Common.{refl, sym, ◌∙◌}
use Rattle.jsx_tree.proofs.Rows.Placing.{no_node}
use Rattle.jsx_tree.proofs.Rows.Steps.{bar, on}
use Rattle.jsx_statement.proofs.Tries.{no_try, try_built}
use Rattle.jsx_operand.proofs.Steps.{passed}
use Rattle.jsx_operand.proofs.Placing.{placed_as}
use Rattle.jsx_operand.proofs.Places.{spans_from}
use Rattle.jsx_statement.proofs.PlacedNodes.{try_placed}
use Rattle.jsx_statement.proofs.grammar.Statements.try_statement.Goals as goal

pub returns-in_err-body-clause-refused : goal.returns-in_err-body-clause-refused
returns-in_err-body-clause-refused g c = passed _ c.in_err-body.ensures.refused c.from_residual.ensures.1 (λ b. no_node (bar b))

pub returns-in_err-handler-clause-refused : goal.returns-in_err-handler-clause-refused
returns-in_err-handler-clause-refused g c = passed _ c.in_err-handler.ensures.refused c.from_residual-in_err-handler.ensures.1 (λ b. no_node (on c.in_ok-body.ensures.read (bar b)))

pub returns-in_err-finalizer-clause-refused : goal.returns-in_err-finalizer-clause-refused
returns-in_err-finalizer-clause-refused g c = passed _ c.in_err-finalizer.ensures.refused c.from_residual-in_err-finalizer.ensures.1 (λ b. no_node (on c.in_ok-body.ensures.read (on c.in_ok-handler.ensures.read (bar b))))

pub returns-then-not-has_part-clause-refused : goal.returns-then-not-has_part-clause-refused
returns-then-not-has_part-clause-refused g c = record { bars = λ at e _. no_try c.in_ok-handler.handler c.in_ok-finalizer.finalizer c.in_ok-body.ensures.read c.in_ok-handler.ensures.read c.in_ok-finalizer.ensures.read (sym c.has_part.ensures ∙ c.if-not-has_part.true) }

pub returns-clause-read : goal.returns-clause-read
returns-clause-read g c = try_built c.in_ok-handler.handler c.in_ok-finalizer.finalizer c.in_ok-body.ensures.read c.in_ok-handler.ensures.read c.in_ok-finalizer.ensures.read (sym c.has_part.ensures ∙ c.if-not-has_part.false) c.in_ok-try_statement.ensures.view

pub returns-clause-placed : goal.returns-clause-placed
returns-clause-placed g c = record {
  on = λ w sign begins. placed_as c.in_ok-try_statement.ensures.told c.in_ok-try_statement.ensures.view (try_placed sign c.in_ok-body.ensures.placed c.in_ok-handler.ensures.placed c.in_ok-finalizer.ensures.placed (spans_from c.span_to-span.ensures refl (c.last_place-lo.ensures ∙ begins) refl));
}
