use Rattle.std.proofs.Common.{true, false, refl}
use Rattle.jsx_tree.proofs.Rows.Placing.{no_node}
use Rattle.jsx_tree.proofs.Rows.Steps.{bar, on}
use Rattle.jsx_operand.proofs.Places.{spans_from}
use Rattle.jsx_operand.proofs.Placing.{placed_as}
use Rattle.jsx_operand.proofs.PlacedExpressions.{super_index_row}
use Rattle.jsx_operand.proofs.Steps.{passed}
use Rattle.jsx_operand.proofs.Values.{sign_ended}
use Rattle.jsx_member.proofs.Supers.{index_built, index_outside}
use Rattle.jsx_member.proofs.grammar.Brackets.super_index.Goals as goal

pub returns-then-not-context-clause-refused : goal.returns-then-not-context-clause-refused
returns-then-not-context-clause-refused g c = record { bars = λ _ _ _. index_outside c.if-not-context.true }

pub returns-in_err-index-clause-refused : goal.returns-in_err-index-clause-refused
returns-in_err-index-clause-refused g c = passed _ c.in_err-index.ensures.refused c.from_residual.ensures.1 (λ b. no_node (bar b))

pub returns-in_err-expect-clause-refused : goal.returns-in_err-expect-clause-refused
returns-in_err-expect-clause-refused g c = passed _ c.in_err-expect.ensures.refused c.from_residual-in_err-expect.ensures.1 (λ b. no_node (on c.in_ok-index.ensures.read (bar b)))

pub returns-clause-read : goal.returns-clause-read
returns-clause-read g c = index_built c.if-not-context.false c.in_ok-index.ensures.read c.in_ok-expect.ensures.read refl c.in_ok-super_index.ensures.view

pub returns-clause-ended : goal.returns-clause-ended
returns-clause-ended g c = sign_ended c.in_ok-expect.ensures.read.past

pub returns-clause-told : goal.returns-clause-told
returns-clause-told g c = record {
  on = λ a b sign begins bracket. placed_as c.in_ok-super_index.ensures.told c.in_ok-super_index.ensures.view (super_index_row sign bracket c.in_ok-index.ensures.placed c.in_ok-expect.ensures.takes (spans_from c.span_to.ensures refl begins refl));
}
