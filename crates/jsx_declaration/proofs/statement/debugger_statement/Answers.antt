use Rattle.std.proofs.Common.{refl, ◌∙◌, ap}
use Rattle.jsx_tree.proofs.Rows.Placing.{no_node}
use Rattle.jsx_tree.proofs.Rows.Steps.{bar, on, only_sign}
use Rattle.jsx_token.specs.Here.{place_of}
use Rattle.jsx_declaration.proofs.Controls.{debugger_built}
use Rattle.jsx_operand.proofs.Steps.{passed}
use Rattle.jsx_operand.proofs.Placing.{placed_as, takes_ends}
use Rattle.jsx_operand.proofs.Places.{spans_from}
use Rattle.jsx_declaration.proofs.PlacedNodes.{debugger_placed}
use Rattle.jsx_declaration.proofs.statement.debugger_statement.Goals as goal

pub returns-in_err-semicolon-clause-refused : goal.returns-in_err-semicolon-clause-refused
returns-in_err-semicolon-clause-refused c = passed _ c.in_err-semicolon.ensures.refused c.from_residual.ensures.1 (λ b. no_node (on (only_sign (record { is = ap place_of c.ends.ensures; found = refl })) (bar b)))

pub returns-clause-read : goal.returns-clause-read
returns-clause-read c = debugger_built (record { is = ap place_of c.ends.ensures; found = refl }) c.in_ok-semicolon.ensures.read refl c.in_ok-debugger_statement.ensures.view

pub returns-clause-placed : goal.returns-clause-placed
returns-clause-placed c = record { on = λ w sign begins. placed_as c.in_ok-debugger_statement.ensures.told c.in_ok-debugger_statement.ensures.view (debugger_placed sign (takes_ends c.ends.ensures) c.in_ok-semicolon.ensures.takes (spans_from c.span_to.ensures refl (c.last_place-lo.ensures ∙ begins) refl)) }
