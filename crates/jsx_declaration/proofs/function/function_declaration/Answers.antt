use Rattle.std.proofs.Common.{refl, ◌∙◌}
use Rattle.jsx_tree.proofs.Rows.Placing.{no_node}
use Rattle.jsx_tree.proofs.Rows.Steps.{bar}
use Rattle.jsx_operand.proofs.Steps.{passed}
use Rattle.jsx_operand.proofs.Places.{spans_from}
use Rattle.jsx_operand.proofs.Placing.{placed_as}
use Rattle.jsx_declaration.proofs.Declarations.{function_built, function_placed, no_code}
use Rattle.jsx_declaration.proofs.function.function_declaration.Goals as goal

pub returns-in_err-name-clause-refused : goal.returns-in_err-name-clause-refused
returns-in_err-name-clause-refused g c = passed _ c.in_err-name.ensures.refused c.from_residual.ensures.1 (λ b. no_node (bar b))

pub returns-in_err-params-clause-refused : goal.returns-in_err-params-clause-refused
returns-in_err-params-clause-refused g c = passed _ c.in_err-params.ensures.refused c.from_residual-in_err-params.ensures.1 (λ n. no_code c.in_ok-name.ensures.read n)

pub returns-clause-read : goal.returns-clause-read
returns-clause-read g c = function_built c.in_ok-name.ensures.read c.in_ok-params.ensures.read c.in_ok-params.ensures.plain c.in_ok-function_declaration.ensures.view

pub returns-clause-placed : goal.returns-clause-placed
returns-clause-placed g c = record {
  on = λ w sign begins. placed_as c.in_ok-function_declaration.ensures.told c.in_ok-function_declaration.ensures.view (function_placed sign c.in_ok-name.ensures.placed c.in_ok-params.ensures.placed (spans_from c.span_to-span.ensures refl (c.last_place-lo.ensures ∙ begins) refl));
}
