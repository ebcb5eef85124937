use Rattle.std.proofs.Common.{refl}
use Rattle.jsx_tree.proofs.Rows.Steps.{on}
use Rattle.jsx_operand.proofs.Places.{spans_from}
use Rattle.jsx_operand.proofs.Placing.{placed_as}
use Rattle.jsx_operand.proofs.PlacedLinks.{call_link_row}
use Rattle.jsx_member.proofs.grammar.Brackets.call_link.Goals as goal

pub returns-clause-read : goal.returns-clause-read
returns-clause-read g c = record { parts = _; is = c.in_ok-call_link.ensures.view; row = c.in_ok-all.ensures.read }

pub returns-clause-placed : goal.returns-clause-placed
returns-clause-placed g c = record {
  on = λ w i k.
      placed_as c.in_ok-call_link.ensures.told c.in_ok-call_link.ensures.view (call_link_row c.args.form k c.in_ok-all.ensures.placed (spans_from c.span_to.ensures refl i refl));
}
