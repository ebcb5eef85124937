use Rattle.std.proofs.Common.{refl, sym, ◌∙◌}
use Rattle.jsx_statement.proofs.Inners.{sign_inners, signed_inners}
use Rattle.jsx_operand.proofs.Steps.{passed}
use Rattle.jsx_operand.proofs.Placing.{placed_as}
use Rattle.jsx_operand.proofs.Places.{spans_from}
use Rattle.jsx_statement.proofs.PlacedNodes.{default_placed}
use Rattle.jsx_statement.proofs.grammar.Statements.default_clause.Goals as goal

pub returns-in_err-expect-clause-refused : goal.returns-in_err-expect-clause-refused
returns-in_err-expect-clause-refused g c = passed _ c.in_err-expect.ensures.refused c.from_residual.ensures.1 (λ b. sign_inners b)

pub returns-in_err-body-clause-refused : goal.returns-in_err-body-clause-refused
returns-in_err-body-clause-refused g c = passed _ c.in_err-body.ensures.refused c.from_residual-in_err-body.ensures.1 (λ n. signed_inners c.in_ok-expect.ensures.read n)

pub returns-clause-read : goal.returns-clause-read
returns-clause-read g c = record { body = _; begin = _; is = c.in_ok-case_clause.ensures.view; colon = sym (c.in_ok-expect.ensures.takes.leads); reads = c.in_ok-body.ensures.read }

pub returns-clause-placed : goal.returns-clause-placed
returns-clause-placed g c = record {
  on = λ w sign begins. placed_as c.in_ok-case_clause.ensures.told c.in_ok-case_clause.ensures.view (default_placed sign c.in_ok-expect.ensures.takes c.in_ok-body.ensures.placed (spans_from c.span_to-span.ensures refl (c.last_place-lo.ensures ∙ begins) refl));
}
