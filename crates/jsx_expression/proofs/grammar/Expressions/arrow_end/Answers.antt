use Rattle.std.proofs.Common.{sym, ◌∙◌}
use Rattle.jsx_function.proofs.Inside.{passed_as}
use Rattle.jsx_operand.proofs.Steps.{passed}
use Rattle.jsx_expression.specs.Arrows.{is_block}
use Rattle.jsx_expression.proofs.ArrowEnds.{end_no_arrow, end_no_body, end_off_line, end_only, moves_of, off_line, on_line}
use Rattle.jsx_expression.proofs.PlacedArrows.{end_placed}
use Rattle.jsx_expression.proofs.grammar.Expressions.arrow_end.Goals as goal

pub returns-then-not-is_on_line-clause-refused : goal.returns-then-not-is_on_line-clause-refused
returns-then-not-is_on_line-clause-refused g c = record { bars = λ _ _ _. end_off_line (off_line c.args.lexer.now (sym c.is_on_line.ensures ∙ c.if-not-is_on_line.true)) }

pub returns-in_err-expect-clause-refused : goal.returns-in_err-expect-clause-refused
returns-in_err-expect-clause-refused g c = passed _ c.in_err-expect.ensures.refused c.from_residual.ensures.1 (λ b. end_no_arrow (on_line c.args.lexer.now (sym c.is_on_line.ensures ∙ c.if-not-is_on_line.false)) b)

pub returns-in_err-body-clause-refused : goal.returns-in_err-body-clause-refused
returns-in_err-body-clause-refused g c = passed_as _ c.of_arrow.ensures.levels c.in_err-body.ensures.refused c.from_residual-in_err-body.ensures.1
    (λ n. end_no_body c.of_arrow.ensures.around (on_line c.args.lexer.now (sym c.is_on_line.ensures ∙ c.if-not-is_on_line.false)) (moves_of c.in_ok-expect.ensures.read) n)

pub returns-clause-read : goal.returns-clause-read
returns-clause-read g c =
    end_only (is_block c.in_ok-body.body) c.of_arrow.ensures.around (on_line c.args.lexer.now (sym c.is_on_line.ensures ∙ c.if-not-is_on_line.false)) (moves_of c.in_ok-expect.ensures.read) c.in_ok-body.ensures.read.only c.in_ok-body.ensures.read.other

pub returns-clause-placed : goal.returns-clause-placed
returns-clause-placed g c = record { row = end_placed (is_block c.in_ok-body.body) c.in_ok-expect.ensures.takes c.in_ok-body.ensures.placed.row }
