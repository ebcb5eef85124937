use Rattle.std.proofs.Common.{refl, sym, subst}
use Rattle.jsx_token.specs.declared.heading.Heading.TheVariants as heading
use Rattle.jsx_make.specs.NodeSpans.{expr_at}
use Rattle.jsx_operand.specs.Spans.{Spans}
use Rattle.jsx_token.specs.Places.{end_of, next_of}
use Rattle.jsx_tree.proofs.Rows.Placing.{no_node}
use Rattle.jsx_declaration.proofs.Items.{statement_built, no_value_statement, unfinished}
use Rattle.jsx_operand.proofs.Steps.{passed}
use Rattle.jsx_operand.proofs.Places.{spans_from}
use Rattle.jsx_operand.proofs.Placing.{placed_as}
use Rattle.jsx_declaration.proofs.PlacedNodes.{evaluation_placed}
use Rattle.jsx_declaration.proofs.statement.expression_statement.Goals as goal

pub returns-in_err-expr-clause-refused : goal.returns-in_err-expr-clause-refused
returns-in_err-expr-clause-refused g c = passed _ c.in_err-expr.ensures.refused c.from_residual.ensures.1 (λ b. no_node (no_value_statement b))

pub returns-in_err-semicolon-clause-refused : goal.returns-in_err-semicolon-clause-refused
returns-in_err-semicolon-clause-refused g c = passed _ c.in_err-semicolon.ensures.refused c.from_residual-in_err-semicolon.ensures.1 (λ b. no_node (unfinished (record { is = c.requires.plain.on heading.Block }) (record { is = c.requires.plain.on heading.Function }) (record { is = c.requires.plain.on heading.Class }) c.in_ok-expr.ensures.read b))

pub returns-clause-read : goal.returns-clause-read
returns-clause-read g c = statement_built (record { is = c.requires.plain.on heading.Block }) (record { is = c.requires.plain.on heading.Function }) (record { is = c.requires.plain.on heading.Class }) c.in_ok-expr.ensures.read c.in_ok-semicolon.ensures.read c.in_ok-expression_statement.ensures.view

pub returns-clause-placed : goal.returns-clause-placed
returns-clause-placed g c =
    placed_as c.in_ok-expression_statement.ensures.told c.in_ok-expression_statement.ensures.view
    (evaluation_placed c.in_ok-expr.ensures.placed c.in_ok-semicolon.ensures.takes (spans_from c.span_to-span.ensures refl (c.start_of.ensures.on _ _ (subst (λ e. Spans (expr_at e) (next_of c.args.lexer.now) (end_of c.sequence.new.lexer)) (sym c.deref.ensures) c.in_ok-expr.ensures.span)) refl))
