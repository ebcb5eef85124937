use Rattle.std.proofs.Common.{refl}
use Rattle.jsx_tree.proofs.Rows.Steps.{bar, on, built_2}
use Rattle.jsx_operand.proofs.Values.{sign_ended}
use Rattle.jsx_operand.proofs.Places.{spans_from}
use Rattle.jsx_operand.proofs.Steps.{passed}
use Rattle.jsx_operand.proofs.Placing.{placed_as}
use Rattle.jsx_operand.proofs.PlacedLinks.{index_link_row}
use Rattle.jsx_member.proofs.grammar.Brackets.index_link.Goals as goal

pub returns-in_err-inner-clause-refused : goal.returns-in_err-inner-clause-refused
returns-in_err-inner-clause-refused g c = passed _ c.in_err-inner.ensures.refused c.from_residual.ensures.1 (λ b. bar b)

pub returns-in_err-expect-clause-refused : goal.returns-in_err-expect-clause-refused
returns-in_err-expect-clause-refused g c = passed _ c.in_err-expect.ensures.refused c.from_residual-in_err-expect.ensures.1 (λ b. on c.in_ok-inner.ensures.read (bar b))

pub returns-clause-read : goal.returns-clause-read
returns-clause-read g c = built_2 refl c.in_ok-inner.ensures.read c.in_ok-expect.ensures.read c.in_ok-index_link.ensures.view

pub returns-clause-ended : goal.returns-clause-ended
returns-clause-ended g c = sign_ended c.in_ok-expect.ensures.read.past

pub returns-clause-placed : goal.returns-clause-placed
returns-clause-placed g c = record {
  on = λ w i k.
      placed_as c.in_ok-index_link.ensures.told c.in_ok-index_link.ensures.view (index_link_row c.args.form k c.in_ok-inner.ensures.placed c.in_ok-expect.ensures.takes (spans_from c.span_to.ensures refl i refl));
}
