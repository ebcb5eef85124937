use Rattle.std.proofs.Common.{refl}
use Rattle.jsx_operand.proofs.Places.{spans_from}
use Rattle.jsx_operand.proofs.Placing.{placed_as}
use Rattle.jsx_operand.proofs.Steps.{passed, passed_in}
use Rattle.jsx_expression.proofs.BareArrows.{end_unread, shallow_end, shallow_name}
use Rattle.jsx_expression.specs.Arrows.{is_block, view_end}
use Rattle.jsx_expression.proofs.PlacedArrows.{bare_placed}
use Rattle.jsx_expression.proofs.grammar.Expressions.bare_arrow.Goals as goal

pub returns-in_err-levels-clause-refused : goal.returns-in_err-levels-clause-refused
returns-in_err-levels-clause-refused g c = passed _ c.in_err-levels.ensures.refused c.from_residual.ensures.1 (λ b. shallow_end b)

pub returns-in_err-within_at-clause-refused : goal.returns-in_err-within_at-clause-refused
returns-in_err-within_at-clause-refused g c = passed_in _ c.in_ok-levels.ensures.levels c.in_err-within_at.ensures.refused c.from_residual-in_err-within_at.ensures.1 (λ b. shallow_name _ b)

pub returns-in_err-body-clause-refused : goal.returns-in_err-body-clause-refused
returns-in_err-body-clause-refused g c = passed_in _ c.in_ok-levels.ensures.levels c.in_err-body.ensures.refused c.from_residual-in_err-body.ensures.1 (λ n. end_unread n)

pub returns-clause-read : goal.returns-clause-read
returns-clause-read g c = record { block = is_block c.in_ok-body.body; end' = view_end c.in_ok-body.body; is = c.in_ok-bare_arrow_of.ensures.view; read = c.in_ok-body.ensures.read }

pub returns-clause-placed : goal.returns-clause-placed
returns-clause-placed g c = record {
  on = λ w begins name. placed_as c.in_ok-bare_arrow_of.ensures.told c.in_ok-bare_arrow_of.ensures.view (bare_placed (is_block c.in_ok-body.body) name c.in_ok-body.ensures.placed.row (spans_from c.span_to-span.ensures refl begins refl));
}
