use Rattle.std.proofs.Common.{refl, ◌∙◌}
use Rattle.jsx_tree.proofs.Rows.Steps.{bar, on}
use Rattle.jsx_operand.proofs.Steps.{passed}
use Rattle.jsx_operand.proofs.Placing.{placed_as}
use Rattle.jsx_operand.proofs.Places.{spans_from}
use Rattle.jsx_statement.proofs.PlacedNodes.{caught_placed}
use Rattle.jsx_statement.proofs.grammar.Statements.catch_name.Goals as goal

pub returns-in_err-name-clause-refused : goal.returns-in_err-name-clause-refused
returns-in_err-name-clause-refused g c = passed _ c.in_err-name.ensures.refused c.from_residual.ensures.1 (λ b. bar b)

pub returns-in_err-expect-clause-refused : goal.returns-in_err-expect-clause-refused
returns-in_err-expect-clause-refused g c = passed _ c.in_err-expect.ensures.refused c.from_residual-in_err-expect.ensures.1 (λ b. on c.in_ok-name.ensures.read (bar b))

pub returns-in_err-body-clause-refused : goal.returns-in_err-body-clause-refused
returns-in_err-body-clause-refused g c = passed _ c.in_err-body.ensures.refused c.from_residual-in_err-body.ensures.1 (λ b. on c.in_ok-name.ensures.read (on c.in_ok-expect.ensures.read (bar b)))

pub returns-clause-read : goal.returns-clause-read
returns-clause-read g c = record { name = _; body = _; bracket = _; brace = _; is = c.in_ok-catch_clause.ensures.view; named = c.in_ok-name.ensures.read; closed = c.in_ok-expect.ensures.read; block = c.in_ok-body.ensures.read }

pub returns-clause-placed : goal.returns-clause-placed
returns-clause-placed g c = record {
  on = λ w sign begins. placed_as c.in_ok-catch_clause.ensures.told c.in_ok-catch_clause.ensures.view (caught_placed sign c.in_ok-name.ensures.placed c.in_ok-expect.ensures.takes c.in_ok-body.ensures.placed (spans_from c.span_to-span.ensures refl (c.last_place-lo.ensures ∙ begins) refl));
}
