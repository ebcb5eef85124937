use Rattle.std.proofs.Common.{refl, ◌∙◌}
use Rattle.jsx_tree.proofs.Rows.Steps.{bar, on, built_3}
use Rattle.jsx_operand.proofs.Values.{sign_ended}
use Rattle.jsx_operand.proofs.Places.{spans_from}
use Rattle.jsx_operand.proofs.Steps.{passed}
use Rattle.jsx_operand.proofs.Placing.{placed_as}
use Rattle.jsx_operand.proofs.PlacedExpressions.{import_row}
use Rattle.jsx_member.proofs.grammar.Brackets.import_call.Goals as goal

pub returns-in_err-expect-clause-refused : goal.returns-in_err-expect-clause-refused
returns-in_err-expect-clause-refused g c = passed _ c.in_err-expect.ensures.refused c.from_residual.ensures.1 (λ b. bar b)

pub returns-in_err-source-clause-refused : goal.returns-in_err-source-clause-refused
returns-in_err-source-clause-refused g c = passed _ c.in_err-source.ensures.refused c.from_residual-in_err-source.ensures.1 (λ b. on c.in_ok-expect.ensures.read (bar b))

pub returns-in_err-expect-2-clause-refused : goal.returns-in_err-expect-2-clause-refused
returns-in_err-expect-2-clause-refused g c = passed _ c.in_err-expect-2.ensures.refused c.from_residual-in_err-expect-2.ensures.1 (λ b. on c.in_ok-expect.ensures.read (on c.in_ok-source.ensures.read (bar b)))

pub returns-clause-read : goal.returns-clause-read
returns-clause-read g c = built_3 refl c.in_ok-expect.ensures.read c.in_ok-source.ensures.read c.in_ok-expect-2.ensures.read c.in_ok-import_call.ensures.view

pub returns-clause-ended : goal.returns-clause-ended
returns-clause-ended g c = sign_ended c.in_ok-expect-2.ensures.read.past

pub returns-clause-placed : goal.returns-clause-placed
returns-clause-placed g c = record {
  on = λ w sign begins.
      placed_as c.in_ok-import_call.ensures.told c.in_ok-import_call.ensures.view (import_row sign c.in_ok-expect.ensures.takes c.in_ok-source.ensures.placed c.in_ok-expect-2.ensures.takes (spans_from c.span_to.ensures refl (c.last_place-lo.ensures ∙ begins) refl));
}
