use Rattle.std.proofs.Common.{refl, ◌∙◌}
use Rattle.jsx_declaration.proofs.Controls.{empty_built}
use Rattle.jsx_operand.proofs.Placing.{placed_as}
use Rattle.jsx_operand.proofs.Places.{spans_from}
use Rattle.jsx_declaration.proofs.PlacedNodes.{empty_placed}
use Rattle.jsx_declaration.proofs.statement.empty_statement.Goals as goal

pub returns-clause-read : goal.returns-clause-read
returns-clause-read c = empty_built refl c.in_ok-empty_statement.ensures.view

pub returns-clause-placed : goal.returns-clause-placed
returns-clause-placed c = record { on = λ w sign begins. placed_as c.in_ok-empty_statement.ensures.told c.in_ok-empty_statement.ensures.view (empty_placed sign (spans_from c.span_to.ensures refl (c.last_place-lo.ensures ∙ begins) refl)) }
