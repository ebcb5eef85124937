use Rattle.std.proofs.Common.{refl, ◌∙◌}
use Rattle.jsx_tree.proofs.Rows.Steps.{bar, built_1}
use Rattle.jsx_operand.proofs.Places.{spans_from}
use Rattle.jsx_operand.proofs.Steps.{passed}
use Rattle.jsx_operand.proofs.Placing.{placed_as}
use Rattle.jsx_operand.proofs.PlacedExpressions.{spread_row}
use Rattle.jsx_member.proofs.MemberPlaces.{rest_placed}
use Rattle.jsx_member.proofs.grammar.Brackets.spread_member.Goals as goal

pub returns-in_err-inner-clause-refused : goal.returns-in_err-inner-clause-refused
returns-in_err-inner-clause-refused g c = passed _ c.in_err-inner.ensures.refused c.from_residual.ensures.1 (λ b. bar b)

pub returns-clause-read : goal.returns-clause-read
returns-clause-read g c = built_1 refl c.in_ok-inner.ensures.read c.in_ok-spread_member.ensures.view

pub returns-clause-placed : goal.returns-clause-placed
returns-clause-placed g c = record {
  on = λ w sign begins. placed_as c.in_ok-spread_member.ensures.told c.in_ok-spread_member.ensures.view (spread_row sign c.in_ok-inner.ensures.placed (spans_from c.span_to.ensures refl (c.last_place-lo.ensures ∙ begins) refl));
}

pub returns-clause-rest : goal.returns-clause-rest
returns-clause-rest g c = rest_placed c.in_ok-inner.ensures.placed c.in_ok-spread_member.ensures.view c.in_ok-spread_member.ensures.told (λ w begins. spans_from c.span_to.ensures refl (c.last_place-lo.ensures ∙ begins) refl)
