use Rattle.std.proofs.Common.{refl, ◌∙◌}
use Rattle.jsx_tree.proofs.Rows.Placing.{no_node}
use Rattle.jsx_tree.proofs.Rows.Steps.{bar, on}
use Rattle.jsx_statement.proofs.Elses.{if_built}
use Rattle.jsx_operand.proofs.Steps.{passed}
use Rattle.jsx_operand.proofs.Placing.{placed_as}
use Rattle.jsx_operand.proofs.Places.{spans_from}
use Rattle.jsx_statement.proofs.PlacedNodes.{if_placed}
use Rattle.jsx_statement.proofs.grammar.Statements.if_statement.Goals as goal

pub returns-in_err-expect-clause-refused : goal.returns-in_err-expect-clause-refused
returns-in_err-expect-clause-refused g c = passed _ c.in_err-expect.ensures.refused c.from_residual.ensures.1 (λ b. no_node (bar b))

pub returns-in_err-test-clause-refused : goal.returns-in_err-test-clause-refused
returns-in_err-test-clause-refused g c = passed _ c.in_err-test.ensures.refused c.from_residual-in_err-test.ensures.1 (λ b. no_node (on c.in_ok-expect.ensures.read (bar b)))

pub returns-in_err-expect-2-clause-refused : goal.returns-in_err-expect-2-clause-refused
returns-in_err-expect-2-clause-refused g c = passed _ c.in_err-expect-2.ensures.refused c.from_residual-in_err-expect-2.ensures.1 (λ b. no_node (on c.in_ok-expect.ensures.read (on c.in_ok-test.ensures.read (bar b))))

pub returns-in_err-then-clause-refused : goal.returns-in_err-then-clause-refused
returns-in_err-then-clause-refused g c = passed _ c.in_err-then.ensures.refused c.from_residual-in_err-then.ensures.1 (λ b. no_node (on c.in_ok-expect.ensures.read (on c.in_ok-test.ensures.read (on c.in_ok-expect-2.ensures.read (bar b)))))

pub returns-in_err-other-clause-refused : goal.returns-in_err-other-clause-refused
returns-in_err-other-clause-refused g c = passed _ c.in_err-other.ensures.refused c.from_residual-in_err-other.ensures.1
    (λ n. no_node (on c.in_ok-expect.ensures.read (on c.in_ok-test.ensures.read (on c.in_ok-expect-2.ensures.read (on c.in_ok-then.ensures.read n)))))

pub returns-clause-read : goal.returns-clause-read
returns-clause-read g c = if_built c.in_ok-other.other c.in_ok-expect.ensures.read c.in_ok-test.ensures.read c.in_ok-expect-2.ensures.read c.in_ok-then.ensures.read c.in_ok-other.ensures.closed c.in_ok-other.ensures.read c.in_ok-if_statement.ensures.view

pub returns-clause-placed : goal.returns-clause-placed
returns-clause-placed g c = record {
  on = λ w sign begins. placed_as c.in_ok-if_statement.ensures.told c.in_ok-if_statement.ensures.view (if_placed sign c.in_ok-expect.ensures.takes c.in_ok-test.ensures.placed c.in_ok-expect-2.ensures.takes c.in_ok-then.ensures.placed c.in_ok-other.ensures.placed (spans_from c.span_to-span.ensures refl (c.last_place-lo.ensures ∙ begins) refl));
}
