use Rattle.std.proofs.Common.{refl, ◌∙◌}
use Rattle.jsx_tree.proofs.Rows.Steps.{built_1}
use Rattle.jsx_operand.proofs.Steps.{passed}
use Rattle.jsx_operand.proofs.Values.{name_ended}
use Rattle.jsx_operand.proofs.Places.{spans_from}
use Rattle.jsx_operand.proofs.Placing.{placed_as}
use Rattle.jsx_operand.proofs.PlacedLinks.{name_link_row}
use Rattle.jsx_operand.proofs.link.name_link.Goals as goal

pub returns-in_err-raw-clause-refused : goal.returns-in_err-raw-clause-refused
returns-in_err-raw-clause-refused c = passed _ c.in_err-raw.ensures.refused c.from_residual.ensures.1 (λ b. b)

pub returns-clause-read : goal.returns-clause-read
returns-clause-read c = built_1 refl c.in_ok-raw.ensures.read c.in_ok-name_link.ensures.view

pub returns-clause-placed : goal.returns-clause-placed
returns-clause-placed c = record {
  on = λ w k i.
      placed_as c.in_ok-name_link.ensures.told c.in_ok-name_link.ensures.view (name_link_row c.args.form k c.in_ok-raw.ensures.takes (c.last_place.ensures ∙ c.in_ok-raw.ensures.begins)
      (spans_from c.span_to.ensures refl (c.last_place-lo.ensures ∙ i) refl));
}

pub returns-clause-ended : goal.returns-clause-ended
returns-clause-ended c = name_ended c.in_ok-raw.ensures.read
