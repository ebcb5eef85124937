use Rattle.jsx_operand.specs.Around.{around_of}
use Rattle.std.proofs.Common.{refl, ◌∙◌, map}
use Rattle.jsx_tree.specs.View.{forest, inside, view_pat, word_of}
use Rattle.jsx_tree.proofs.Rows.Placing.{no_node}
use Rattle.jsx_declaration.proofs.Items.{declared_keeps}
use Rattle.jsx_declaration.proofs.Heads.{declared_row, undeclared_row}
use Rattle.jsx_operand.proofs.Steps.{passed}
use Rattle.jsx_operand.proofs.Placing.{placed_as}
use Rattle.jsx_operand.proofs.Places.{spans_from}
use Rattle.jsx_declaration.proofs.PlacedNodes.{declared_placed}
use Rattle.jsx_declaration.proofs.statement.declaration.Goals as goal

pub returns-in_err-all-clause-refused : goal.returns-in_err-all-clause-refused
returns-in_err-all-clause-refused g c = passed _ c.in_err-all.ensures.refused c.from_residual.ensures.1 (λ n. n.free)

pub returns-in_err-semicolon-clause-refused : goal.returns-in_err-semicolon-clause-refused
returns-in_err-semicolon-clause-refused g c = passed _ c.in_err-semicolon.ensures.refused c.from_residual-in_err-semicolon.ensures.1 (λ b. no_node (undeclared_row c.in_ok-all.ensures.read b))

pub returns-clause-read : goal.returns-clause-read
returns-clause-read g c =
    record { parts = _; is = c.in_ok-variables.ensures.view; row = declared_row c.in_ok-all.ensures.read c.in_ok-semicolon.ensures.read; keeps = declared_keeps (word_of c.args.word) (around_of c.args.context.around) (forest (map (inside view_pat) c.in_ok-all.all.items)) c.in_ok-all.ensures.initialized }

pub returns-clause-placed : goal.returns-clause-placed
returns-clause-placed g c = record {
  on = λ w word begins. placed_as c.in_ok-variables.ensures.told c.in_ok-variables.ensures.view (declared_placed (word_of c.args.word) word c.in_ok-all.ensures.placed c.in_ok-semicolon.ensures.takes (spans_from c.span_to.ensures refl (c.last_place-lo.ensures ∙ begins) refl));
}
