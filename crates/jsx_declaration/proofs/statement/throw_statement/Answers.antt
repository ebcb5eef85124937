use Rattle.std.proofs.Common.{refl, sym, ◌∙◌}
use Rattle.jsx_tree.proofs.Rows.Placing.{no_node}
use Rattle.jsx_tree.proofs.Rows.Steps.{bar, on, only_sign}
use Rattle.jsx_declaration.proofs.Controls.{no_throw, on_line, throw_built}
use Rattle.jsx_operand.proofs.Steps.{passed}
use Rattle.jsx_operand.proofs.Placing.{placed_as}
use Rattle.jsx_operand.proofs.Places.{spans_from}
use Rattle.jsx_declaration.proofs.PlacedNodes.{takes_line, throw_placed}
use Rattle.jsx_declaration.proofs.statement.throw_statement.Goals as goal

pub returns-then-not-is_on_line-clause-refused : goal.returns-then-not-is_on_line-clause-refused
returns-then-not-is_on_line-clause-refused g c = record { bars = λ _ _ _. no_throw c.args.lexer.now (sym c.is_on_line.ensures ∙ c.if-not-is_on_line.true) }

pub returns-in_err-value-clause-refused : goal.returns-in_err-value-clause-refused
returns-in_err-value-clause-refused g c = passed _ c.in_err-value.ensures.refused c.from_residual.ensures.1 (λ b. no_node (on (only_sign (on_line c.args.lexer.now (sym c.is_on_line.ensures ∙ c.if-not-is_on_line.false))) (bar b)))

pub returns-in_err-semicolon-clause-refused : goal.returns-in_err-semicolon-clause-refused
returns-in_err-semicolon-clause-refused g c = passed _ c.in_err-semicolon.ensures.refused c.from_residual-in_err-semicolon.ensures.1
    (λ b. no_node (on (only_sign (on_line c.args.lexer.now (sym c.is_on_line.ensures ∙ c.if-not-is_on_line.false))) (on c.in_ok-value.ensures.read (bar b))))

pub returns-clause-read : goal.returns-clause-read
returns-clause-read g c = throw_built (on_line c.args.lexer.now (sym c.is_on_line.ensures ∙ c.if-not-is_on_line.false)) c.in_ok-value.ensures.read c.in_ok-semicolon.ensures.read refl c.in_ok-throw_statement.ensures.view

pub returns-clause-placed : goal.returns-clause-placed
returns-clause-placed g c = record {
  on = λ w sign begins. placed_as c.in_ok-throw_statement.ensures.told c.in_ok-throw_statement.ensures.view (throw_placed sign (takes_line (sym c.is_on_line.ensures ∙ c.if-not-is_on_line.false)) c.in_ok-value.ensures.placed c.in_ok-semicolon.ensures.takes (spans_from c.span_to-span.ensures refl (c.last_place-lo.ensures ∙ begins) refl));
}
