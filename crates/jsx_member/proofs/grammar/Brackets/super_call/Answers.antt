use Rattle.std.proofs.Common.{true, false, refl}
use Rattle.jsx_tree.proofs.Rows.Placing.{no_node}
use Rattle.jsx_operand.proofs.Places.{spans_from}
use Rattle.jsx_operand.proofs.Placing.{placed_as}
use Rattle.jsx_operand.proofs.PlacedExpressions.{super_call_row}
use Rattle.jsx_operand.proofs.Steps.{passed}
use Rattle.jsx_member.proofs.Supers.{call_built, call_outside}
use Rattle.jsx_member.proofs.grammar.Brackets.super_call.Goals as goal

pub returns-then-not-context-clause-refused : goal.returns-then-not-context-clause-refused
returns-then-not-context-clause-refused g c = record { bars = λ _ _ _. call_outside c.if-not-context.true }

pub returns-in_err-all-clause-refused : goal.returns-in_err-all-clause-refused
returns-in_err-all-clause-refused g c = passed _ c.in_err-all.ensures.refused c.from_residual.ensures.1 (λ n. no_node n)

pub returns-clause-read : goal.returns-clause-read
returns-clause-read g c = call_built c.if-not-context.false c.in_ok-all.ensures.read c.in_ok-super_call.ensures.view

pub returns-clause-told : goal.returns-clause-told
returns-clause-told g c = record {
  on = λ a b sign begins bracket. placed_as c.in_ok-super_call.ensures.told c.in_ok-super_call.ensures.view (super_call_row sign bracket c.in_ok-all.ensures.placed (spans_from c.span_to.ensures refl begins refl));
}
