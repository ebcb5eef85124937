use Rattle.std.proofs.Common.{refl, ◌∙◌}
use Rattle.jsx_tree.proofs.Rows.Placing.{no_node}
use Rattle.jsx_tree.proofs.Rows.Steps.{bar, on}
use Rattle.jsx_statement.proofs.Controls.{no_while_body, while_built}
use Rattle.jsx_operand.proofs.Steps.{passed}
use Rattle.jsx_operand.proofs.Placing.{placed_as}
use Rattle.jsx_operand.proofs.Places.{spans_from}
use Rattle.jsx_function.proofs.Inside.{passed_as}
use Rattle.jsx_statement.proofs.PlacedNodes.{while_placed}
use Rattle.jsx_statement.proofs.grammar.Statements.while_statement.Goals as goal

pub returns-in_err-expect-clause-refused : goal.returns-in_err-expect-clause-refused
returns-in_err-expect-clause-refused g c = passed _ c.in_err-expect.ensures.refused c.from_residual.ensures.1 (λ b. no_node (bar b))

pub returns-in_err-test-clause-refused : goal.returns-in_err-test-clause-refused
returns-in_err-test-clause-refused g c = passed _ c.in_err-test.ensures.refused c.from_residual-in_err-test.ensures.1 (λ b. no_node (on c.in_ok-expect.ensures.read (bar b)))

pub returns-in_err-expect-2-clause-refused : goal.returns-in_err-expect-2-clause-refused
returns-in_err-expect-2-clause-refused g c = passed _ c.in_err-expect-2.ensures.refused c.from_residual-in_err-expect-2.ensures.1 (λ b. no_node (on c.in_ok-expect.ensures.read (on c.in_ok-test.ensures.read (bar b))))

pub returns-in_err-body-clause-refused : goal.returns-in_err-body-clause-refused
returns-in_err-body-clause-refused g c = passed_as _ c.of_loop.ensures.levels c.in_err-body.ensures.refused c.from_residual-in_err-body.ensures.1
    (λ b. no_while_body c.of_loop.ensures.around c.in_ok-expect.ensures.read c.in_ok-test.ensures.read c.in_ok-expect-2.ensures.read b)

pub returns-clause-read : goal.returns-clause-read
returns-clause-read g c = while_built c.of_loop.ensures.around c.in_ok-expect.ensures.read c.in_ok-test.ensures.read c.in_ok-expect-2.ensures.read c.in_ok-body.ensures.read c.in_ok-while_statement.ensures.view

pub returns-clause-placed : goal.returns-clause-placed
returns-clause-placed g c = record {
  on = λ w sign begins. placed_as c.in_ok-while_statement.ensures.told c.in_ok-while_statement.ensures.view (while_placed sign c.in_ok-expect.ensures.takes c.in_ok-test.ensures.placed c.in_ok-expect-2.ensures.takes c.in_ok-body.ensures.placed (spans_from c.span_to-span.ensures refl (c.last_place-lo.ensures ∙ begins) refl));
}
