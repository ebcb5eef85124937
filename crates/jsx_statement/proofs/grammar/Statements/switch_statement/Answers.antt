use Rattle.std.proofs.Common.{refl, ◌∙◌}
use Rattle.jsx_tree.proofs.Rows.Placing.{no_node}
use Rattle.jsx_tree.proofs.Rows.Steps.{bar, on}
use Rattle.jsx_statement.proofs.Cases.{no_switch_brace, no_switch_cases, switch_built}
use Rattle.jsx_operand.proofs.Steps.{passed}
use Rattle.jsx_operand.proofs.Placing.{placed_as}
use Rattle.jsx_operand.proofs.Places.{spans_from}
use Rattle.jsx_function.proofs.Inside.{passed_as}
use Rattle.jsx_statement.proofs.PlacedNodes.{switch_placed}
use Rattle.jsx_statement.proofs.grammar.Statements.switch_statement.Goals as goal

pub returns-in_err-expect-clause-refused : goal.returns-in_err-expect-clause-refused
returns-in_err-expect-clause-refused g c = passed _ c.in_err-expect.ensures.refused c.from_residual.ensures.1 (λ b. no_node (bar b))

pub returns-in_err-value-clause-refused : goal.returns-in_err-value-clause-refused
returns-in_err-value-clause-refused g c = passed _ c.in_err-value.ensures.refused c.from_residual-in_err-value.ensures.1 (λ b. no_node (on c.in_ok-expect.ensures.read (bar b)))

pub returns-in_err-expect-2-clause-refused : goal.returns-in_err-expect-2-clause-refused
returns-in_err-expect-2-clause-refused g c = passed _ c.in_err-expect-2.ensures.refused c.from_residual-in_err-expect-2.ensures.1 (λ b. no_node (on c.in_ok-expect.ensures.read (on c.in_ok-value.ensures.read (bar b))))

pub returns-in_err-expect-3-clause-refused : goal.returns-in_err-expect-3-clause-refused
returns-in_err-expect-3-clause-refused g c = passed_as _ c.of_switch-context.ensures.levels c.in_err-expect-3.ensures.refused c.from_residual-in_err-expect-3.ensures.1
    (λ b. no_switch_brace c.of_switch-context.ensures.around c.in_ok-expect.ensures.read c.in_ok-value.ensures.read c.in_ok-expect-2.ensures.read b)

pub returns-in_err-all-clause-refused : goal.returns-in_err-all-clause-refused
returns-in_err-all-clause-refused g c = passed_as _ c.of_switch-context.ensures.levels c.in_err-all.ensures.refused c.from_residual-in_err-all.ensures.1
    (λ n. no_switch_cases c.of_switch-context.ensures.around c.in_ok-expect.ensures.read c.in_ok-value.ensures.read c.in_ok-expect-2.ensures.read c.in_ok-expect-3.ensures.read n)

pub returns-clause-read : goal.returns-clause-read
returns-clause-read g c =
    switch_built c.of_switch-context.ensures.around c.in_ok-expect.ensures.read c.in_ok-value.ensures.read c.in_ok-expect-2.ensures.read c.in_ok-expect-3.ensures.read c.in_ok-all.ensures.read c.in_ok-all.ensures.one_default c.in_ok-switch_statement.ensures.view

pub returns-clause-placed : goal.returns-clause-placed
returns-clause-placed g c = record {
  on = λ w sign begins. placed_as c.in_ok-switch_statement.ensures.told c.in_ok-switch_statement.ensures.view
      (switch_placed sign c.in_ok-expect.ensures.takes c.in_ok-value.ensures.placed c.in_ok-expect-2.ensures.takes c.in_ok-expect-3.ensures.takes c.in_ok-all.ensures.placed (spans_from c.span_to-span.ensures refl (c.last_place-lo.ensures ∙ begins) refl));
}
