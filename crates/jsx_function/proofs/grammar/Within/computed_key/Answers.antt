use Rattle.std.proofs.Common.{refl, ◌∙◌}
use Rattle.jsx_tree.proofs.Rows.Steps.{bar, on, built_2}
use Rattle.jsx_operand.proofs.Places.{spans_from}
use Rattle.jsx_operand.proofs.Steps.{passed}
use Rattle.jsx_operand.proofs.Placing.{placed_as}
use Rattle.jsx_operand.proofs.PlacedExpressions.{computed_row}
use Rattle.jsx_function.proofs.grammar.Within.computed_key.Goals as goal

pub returns-in_err-inner-clause-refused : goal.returns-in_err-inner-clause-refused
returns-in_err-inner-clause-refused g c = passed _ c.in_err-inner.ensures.refused c.from_residual.ensures.1 (λ b. bar b)

pub returns-in_err-expect-clause-refused : goal.returns-in_err-expect-clause-refused
returns-in_err-expect-clause-refused g c = passed _ c.in_err-expect.ensures.refused c.from_residual-in_err-expect.ensures.1 (λ b. on c.in_ok-inner.ensures.read (bar b))

pub returns-clause-read : goal.returns-clause-read
returns-clause-read g c = built_2 refl c.in_ok-inner.ensures.read c.in_ok-expect.ensures.read c.computed_key.ensures.view

pub returns-clause-placed : goal.returns-clause-placed
returns-clause-placed g c = record {
  on = λ w sign begins. placed_as c.computed_key.ensures.told c.computed_key.ensures.view (computed_row sign c.in_ok-inner.ensures.placed c.in_ok-expect.ensures.takes (spans_from c.span_to.ensures refl (c.last_place-lo.ensures ∙ begins) refl));
}
